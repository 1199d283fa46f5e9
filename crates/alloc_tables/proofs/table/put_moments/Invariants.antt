use Rattle.std.proofs.Common.{◌≡◌, ◌++◌}
use Rattle.table_text.specs.Rows.{rows_text}
use Rattle.alloc_tables.specs.Table.{moment_rows}
use Rattle.alloc_tables.proofs.table.put_moments.Given as goal

-- the records of the moments so far
abbrev pub invariant-loop-i : goal.invariant-loop-i
invariant-loop-i l = l.into.items ≡ l.initial.into.items ++ rows_text (moment_rows l.moments l.i)
