use Rattle.bounded_flow.proofs.Loading.{IsPart}
use Rattle.bounded_flow.proofs.building.load.Given as goal

abbrev pub invariant-loop-place : goal.invariant-loop-place
invariant-loop-place l = IsPart l.family l.trees l.x.units l.place l.edges
