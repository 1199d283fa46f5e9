use Rattle.std.proofs.Common.{◌≡◌, ◌++◌, map, take}
use Rattle.bounded_flow.specs.Loads.{empty_edge}
use Rattle.bounded_flow.specs.Wires.{cell_wires}
use Rattle.bounded_flow.proofs.building.push_cells.Given as goal

abbrev pub invariant-loop-place : goal.invariant-loop-place
invariant-loop-place l = l.edges.items ≡ l.fn.edges.items ++ map empty_edge (take l.place (cell_wires l.family l.trees))
