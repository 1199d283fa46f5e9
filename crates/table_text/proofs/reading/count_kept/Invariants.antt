use Rattle.std.proofs.Common.{◌≡◌, ◌≤◌, take}
use Rattle.csv.specs.Records.{fields_of}
use Rattle.table_text.specs.Rows.{kept_count}
use Rattle.table_text.proofs.reading.count_kept.Given as goal

abbrev pub invariant-loop-i : goal.invariant-loop-i
invariant-loop-i l = (l.count ≡ kept_count (take l.i (fields_of l.fields))) × (l.count ≤ l.i)
