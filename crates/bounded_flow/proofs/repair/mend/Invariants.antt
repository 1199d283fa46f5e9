use Rattle.std.proofs.Common.{length, get_or}
use Rattle.bounded_flow.specs.declared.edge.Edge.{Edge}
use Rattle.bounded_flow.specs.Edges.{gap_of}
use Rattle.bounded_flow.specs.Ranks.{IsRanked}
use Rattle.bounded_flow.proofs.Mending.{Mended}
use Rattle.bounded_flow.proofs.repair.mend.Given as goal

abbrev pub invariant-loop-edges : goal.invariant-loop-edges
invariant-loop-edges l = record {
  mended : Mended l.left (length l.fn.search.place.items) l.fn.edges l.edges l.search;
  ranked : IsRanked l.edges l.gaps;
}

abbrev pub decreases-loop-edges : goal.decreases-loop-edges
decreases-loop-edges l = (let d : Edge = record { tail = 0; head = 0; whole = 0; under = 0; over = 0 } in gap_of (get_or l.edges l.index d))
