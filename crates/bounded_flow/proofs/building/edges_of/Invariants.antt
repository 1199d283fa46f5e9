use Rattle.std.proofs.Common.{◌≡◌, ◌-◌, ◌++◌, map}
use Rattle.bounded_flow.specs.Loads.{empty_edge}
use Rattle.bounded_flow.specs.Wires.{cell_wires, set_wires}
use Rattle.bounded_flow.proofs.building.edges_of.Given as goal

abbrev pub invariant-loop-set : goal.invariant-loop-set
invariant-loop-set l = l.edges.items ≡ map empty_edge (cell_wires l.family l.trees ++ set_wires l.family l.trees (l.set - 1))
