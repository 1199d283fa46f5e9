-- Piece by piece up to the end.
use Rattle.std.proofs.Common.{ℕ, List, Bool, true, not, ◌≡◌, ◌∷◌, [], ◌++◌, ◌∙◌, ap, refl, subst}
use Rattle.std.specs.Prelude.{if◌then◌else◌}
use Rattle.std.specs.Result.{is_ok}
use Rattle.definitions.specs.declared.Piece.{Piece}
use Rattle.definitions.specs.Peelings.{PeelerValue, IsStep}
use Rattle.peeling.specs.Peelers.{IsPeeler}
use Rattle.peeling.proofs.Collected.{collected_nothing, collected_more, collected_all}
use Rattle.peeling.proofs.collect.all_pieces.Goals as goal

pub loop-weight-init : goal.loop-weight-init
loop-weight-init c = rw c.new-list.ensures.items (collected_nothing c.args.peeler.now)

pub loop-weight-preserved : goal.loop-weight-preserved
loop-weight-preserved c =
    let now : PeelerValue = c.loop-weight.peeler in
    let next : PeelerValue = c.next.new.self in
    let m : List ℕ = c.in-Some.ensures.step.0 in
    let step : IsStep now next c.in-Some.weight m = c.in-Some.ensures.step.1 in
    let p : Piece = record { weight = c.in-Some.weight; gives = c.in-Ok.gives } in
    let ok : is_ok c.push.result ≡ true = c.is_err.ensures.negation ∙ ap not c.if-is_err.false in
    let items : c.push.new.self.items ≡ c.loop-weight.list.items ++ p ∷ [] =
    c.push.ensures.items ∙ ap (λ (b : Bool). if b then c.loop-weight.list.items ++ p ∷ [] else c.loop-weight.list.items) ok in
    rw items (collected_more c.args.peeler.now now next c.in-Some.weight m c.loop-weight.list.items p c.loop-weight.invariant step c.in-Some.ensures.lawful refl (c.in-Ok.ensures m step.piece))

pub returns-clause-pieces : goal.returns-clause-pieces
returns-clause-pieces c =
    let stays = c.in_default.ensures.step in
    collected_all c.args.peeler.now c.loop-weight.peeler c.loop-weight.list.items c.loop-weight.invariant (subst IsPeeler stays.1 c.in_default.ensures.lawful) stays.0
