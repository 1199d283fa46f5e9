use Rattle.std.proofs.Common.{◌≡◌, ◌++◌, ◌∷◌, length, take}
use Rattle.csv.specs.Writing.{default_writer, escaped, quote_mark}
use Rattle.table_text.proofs.writing.push_quoted.Given as goal

-- the quote and the bytes so far were appended
abbrev pub invariant-loop-byte : goal.invariant-loop-byte
invariant-loop-byte l = record {
  text : l.into.items ≡ l.fn.into.items ++ (quote_mark ∷ escaped default_writer (take l.byte-index l.field));
  stays : take (length l.fn.into.items) l.into.items ≡ l.fn.into.items;
}
