use Rattle.std.proofs.Common.{◌≤◌, ◌*◌, length}
use Rattle.bounded_flow.specs.Loads.{AreEnds}
use Rattle.bounded_flow.proofs.building.ends_of.Given as goal

abbrev pub invariant-loop-index : goal.invariant-loop-index
invariant-loop-index l = record {
  ends : AreEnds l.edges l.index l.ends.items;
  few : length l.ends.items ≤ 2 * l.index;
}
