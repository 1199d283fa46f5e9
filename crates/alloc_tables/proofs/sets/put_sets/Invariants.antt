use Rattle.std.proofs.Common.{◌≡◌, ◌-◌, ◌++◌}
use Rattle.table_text.specs.Rows.{rows_text}
use Rattle.alloc_tables.specs.Sets.{set_rows}
use Rattle.alloc_tables.proofs.sets.put_sets.Given as goal

-- the records of the sets so far
abbrev pub invariant-loop-number : goal.invariant-loop-number
invariant-loop-number l = l.into.items ≡ l.initial.into.items ++ rows_text (set_rows l.family l.trees (l.number - 1))
