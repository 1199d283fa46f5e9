use Rattle.std.proofs.Common.{◌++◌, length}
use Rattle.table_text.specs.Rows.{IsTextOf}
use Rattle.table_text.proofs.rows.records.Given as goal

abbrev pub invariant-loop-row : goal.invariant-loop-row
invariant-loop-row l = IsTextOf l.fn.bytes (l.rows.items ++ l.reader)

abbrev pub decreases-loop-row : goal.decreases-loop-row
decreases-loop-row l = length l.reader
