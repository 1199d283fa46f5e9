use Rattle.std.proofs.Common.{◌≡◌, ◌++◌}
use Rattle.table_text.specs.Rows.{rows_text}
use Rattle.alloc_tables.specs.Sides.{side_rows}
use Rattle.alloc_tables.proofs.sides.put_sides.Given as goal

-- the records of the sides so far
abbrev pub invariant-loop-i : goal.invariant-loop-i
invariant-loop-i l = l.into.items ≡ l.initial.into.items ++ rows_text (side_rows l.sides l.i)
