use Rattle.std.proofs.Common.{◌≡◌, ◌<◌, ◌-◌, length, sym, ◌∙◌, None, arith, ℕ, ◌+◌}
use Rattle.definitions.specs.Values.{piece_value}
use Rattle.std.proofs.lemmas.List.{length-map}
use Rattle.definitions.specs.Firsts.{first_in}
use Rattle.definitions.proofs.FirstFaults.{first-passes, first-found}
use Rattle.cert_check.specs.PieceFaults.{same_look, pieces_value}
use Rattle.cert_check.proofs.same.same_by.Goals as goal

pub returns-in-Some : goal.returns-in-Some
returns-in-Some c =
    let within : c.loop-first.first < length (pieces_value c.args.pieces.now) = omega (arith, length-map c.args.pieces.now.list.items piece_value) in
    sym (first-found (λ (i : ℕ). first_in (same_look (pieces_value c.args.pieces.now) i) (i + 1) (length (pieces_value c.args.pieces.now) - (i + 1))) c.loop-first.first (length (pieces_value c.args.pieces.now)) c.in-Some.fault within (sym c.in-Some.ensures)) ∙ c.loop-first.invariant

pub loop-first-preserved : goal.loop-first-preserved
loop-first-preserved c =
    let none : first_in (same_look (pieces_value c.args.pieces.now) c.loop-first.first) (c.loop-first.first + 1) (length (pieces_value c.args.pieces.now) - (c.loop-first.first + 1)) ≡ None = sym c.same_from.ensures ∙ c.in_default.is in
    let within : c.loop-first.first < length (pieces_value c.args.pieces.now) = omega (arith, length-map c.args.pieces.now.list.items piece_value) in
    sym (first-passes (λ (i : ℕ). first_in (same_look (pieces_value c.args.pieces.now) i) (i + 1) (length (pieces_value c.args.pieces.now) - (i + 1))) c.loop-first.first (length (pieces_value c.args.pieces.now)) within none) ∙ c.loop-first.invariant
