use Rattle.std.proofs.Common.{◌≡◌}
use Rattle.alloc_gen.specs.MadeSets.{column_cells}
use Rattle.alloc_gen.proofs.sets.cells_of_column.Given as goal

abbrev pub invariant-loop-place : goal.invariant-loop-place
invariant-loop-place l = l.cells.items ≡ column_cells l.place l.step l.column
