use Rattle.bounded_flow.specs.Loads.{AreFirsts}
use Rattle.bounded_flow.proofs.building.firsts_of.Given as goal

abbrev pub invariant-loop-node : goal.invariant-loop-node
invariant-loop-node l = AreFirsts l.node-counter l.ends l.first.items
