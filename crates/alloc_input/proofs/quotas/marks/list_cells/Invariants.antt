use Rattle.std.proofs.Common.{◌≡◌}
use Rattle.alloc_input.specs.Marked.{cells_in_rows}
use Rattle.alloc_input.proofs.quotas.marks.list_cells.Given as goal

abbrev pub invariant-loop-i : goal.invariant-loop-i
invariant-loop-i l = l.cells.items ≡ cells_in_rows l.i l.marks.columns l.marks.rows.items
