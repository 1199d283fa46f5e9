use Rattle.std.proofs.Common.{◌≡◌, ◌++◌, length, take}
use Rattle.csv.specs.Writing.{default_writer, row_body}
use Rattle.table_text.proofs.writing.push_row.Given as goal

-- the fields so far were appended
abbrev pub invariant-loop-i : goal.invariant-loop-i
invariant-loop-i l = record {
  text : l.into.items ≡ l.fn.into.items ++ row_body default_writer (take l.i l.row);
  stays : take (length l.fn.into.items) l.into.items ≡ l.fn.into.items;
}
