use Rattle.std.proofs.Common.{◌≡◌, ◌<◌, ◌≤◌, ◌⊎◌, ℕ, List, length, get_or, subst, sym, ap, ◌∙◌, arith}
use Rattle.std.proofs.Math.ListN.{set}
use Rattle.bounded_flow.specs.declared.edge.Edge.{Edge}
use Rattle.bounded_flow.specs.Edges.{enters, leaves, gap_of, IsSound, Pushed}
use Rattle.bounded_flow.specs.Flows.{Owes, IsFlow, IsWalk, IsRepair}
use Rattle.bounded_flow.specs.Searches.{IsExplored}
use Rattle.bounded_flow.proofs.Balances.{owes_itself}
use Rattle.bounded_flow.proofs.Exploring.{enters_within, leaves_within}
use Rattle.bounded_flow.proofs.Repairs.{found, repaired}
use Rattle.bounded_flow.proofs.repair.repair.Goals as goal

pub walk-requires-clause-found : goal.walk-requires-clause-found
walk-requires-clause-found c =
    let edges = c.args.edges.now in
    let n : ℕ = length c.args.search.now.place.items in
    let s = c.find.new.search in
    let d : Edge = record { tail = 0; head = 0; whole = 0; under = 0; over = 0 } in
    let e = get_or edges c.args.index d in
    let from : c.enters-from.result ≡ enters e = c.enters-from.ensures in
    let to : c.leaves-to.result ≡ leaves e = c.leaves-to.ensures in
    let nodes : length s.place.items ≡ n = c.find.ensures.reached.room.places in
    let off : 0 < gap_of e = omega (arith, c.requires.off d, c.requires.one) in
    let start : enters e < n = enters_within n e (c.requires.flow.inside c.args.index d c.requires.known) in
    let end : leaves e < n = leaves_within n e (c.requires.flow.inside c.args.index d c.requires.known) in
    let first : get_or s.place.items (enters e) 0 ≡ 0 = ap (λ t. get_or s.place.items t 0) (sym from) ∙ c.find.ensures.first in
    let either = subst (λ (t : ℕ). (get_or s.place.items t 0 < s.seen) ⊎ IsExplored edges s s.seen) to c.find.ensures.found in
    let was_seen = found edges c.args.left n c.args.index d s c.requires.flow c.find.ensures.reached c.requires.known off start first either in
    subst (λ (t : ℕ). (t < length s.place.items) × (get_or s.place.items t 0 < s.seen)) (sym to) (omega (arith, end, nodes), was_seen)

pub walk-requires-clause-owes : goal.walk-requires-clause-owes
walk-requires-clause-owes c =
    subst (λ (k : ℕ). Owes (λ e. e.whole) c.args.edges.now k c.leaves-to.result c.leaves-to.result 1) (sym c.find.ensures.reached.room.places)
    (owes_itself (λ e. e.whole) c.args.edges.now (length c.args.search.now.place.items) c.leaves-to.result 1 c.requires.flow.whole)

-- the walk and the push, from what the calls answer
both : (left n m k from to : ℕ) (old mid : List Edge) (d e' : Edge) → m ≡ n → IsFlow left n old → IsWalk left m to from old mid → k < length old → 1 ≤ left → left ≤ gap_of (get_or old k d) → from ≡ enters (get_or old k d) → to ≡ leaves (get_or old k d)
    → IsSound left e' → Pushed left (get_or mid k d) e' → IsFlow left n (set mid k e') × IsRepair left old (set mid k e')
both left n m k from to old mid d e' nodes flow walk known one far is_from is_to sounds pushed =
    repaired left n k from to old mid d e' flow (subst (λ (j : ℕ). IsWalk left j to from old mid) nodes walk) known one far (sym is_from) (sym is_to) sounds pushed

pub returns-clause-flow : goal.returns-clause-flow
returns-clause-flow c =
    let d : Edge = record { tail = 0; head = 0; whole = 0; under = 0; over = 0 } in
    (both c.args.left (length c.args.search.now.place.items) (length c.find.new.search.place.items) c.args.index c.enters-from.result c.leaves-to.result c.args.edges.now c.walk.new.edges d c.push.new.self c.find.ensures.reached.room.places
    c.requires.flow c.walk.ensures.walk c.requires.known c.requires.one (c.requires.off d) c.enters-from.ensures c.leaves-to.ensures c.push.ensures.sound c.push.ensures.pushed).0

pub returns-clause-repair : goal.returns-clause-repair
returns-clause-repair c =
    let d : Edge = record { tail = 0; head = 0; whole = 0; under = 0; over = 0 } in
    (both c.args.left (length c.args.search.now.place.items) (length c.find.new.search.place.items) c.args.index c.enters-from.result c.leaves-to.result c.args.edges.now c.walk.new.edges d c.push.new.self c.find.ensures.reached.room.places
    c.requires.flow c.walk.ensures.walk c.requires.known c.requires.one (c.requires.off d) c.enters-from.ensures c.leaves-to.ensures c.push.ensures.sound c.push.ensures.pushed).1
