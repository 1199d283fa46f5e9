use Rattle.std.proofs.Common.{length}
use Rattle.bounded_flow.specs.Ranks.{IsRanked}
use Rattle.bounded_flow.proofs.Mending.{Mended}
use Rattle.bounded_flow.proofs.Ranking.{wide}
use Rattle.bounded_flow.proofs.repair.settle.Given as goal

abbrev pub invariant-loop-gaps : goal.invariant-loop-gaps
invariant-loop-gaps l = record {
  mended : Mended l.left (length l.fn.search.place.items) l.fn.edges l.edges l.search;
  ranked : IsRanked l.edges l.gaps;
}

abbrev pub decreases-loop-gaps : goal.decreases-loop-gaps
decreases-loop-gaps l = wide l.left l.edges
