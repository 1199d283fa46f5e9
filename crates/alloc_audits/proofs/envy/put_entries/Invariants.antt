use Rattle.std.proofs.Common.{◌≡◌, ◌++◌, map, take}
use Rattle.alloc_audits.specs.Envy.{envy_row}
use Rattle.table_text.specs.Rows.{rows_text}
use Rattle.alloc_audits.proofs.envy.put_entries.Given as goal

-- the records of the entries so far
abbrev pub invariant-loop-entry : goal.invariant-loop-entry
invariant-loop-entry l = l.into.items ≡ l.initial.into.items ++ rows_text (map (envy_row l.agents) (take l.entry-index l.entries))
