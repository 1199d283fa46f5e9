use Rattle.bounded_flow.proofs.Ranking.{IsRankedBefore}
use Rattle.bounded_flow.proofs.repair.rank.Given as goal

abbrev pub invariant-loop-index : goal.invariant-loop-index
invariant-loop-index l = IsRankedBefore l.edges l.gaps l.index
