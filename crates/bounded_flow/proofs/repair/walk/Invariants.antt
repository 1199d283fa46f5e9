use Rattle.std.proofs.Common.{length, get_or}
use Rattle.bounded_flow.specs.Ranks.{IsRanked}
use Rattle.bounded_flow.proofs.Walking.{Walked}
use Rattle.bounded_flow.proofs.repair.walk.Given as goal

abbrev pub invariant-loop-node : goal.invariant-loop-node
invariant-loop-node l = record {
  walked : Walked l.left l.fn.edges l.edges (length l.search.place.items) l.to l.node l.search.place.items l.search.seen;
  ranked : IsRanked l.edges l.gaps;
}

abbrev pub decreases-loop-node : goal.decreases-loop-node
decreases-loop-node l = get_or l.search.place.items l.node 0
