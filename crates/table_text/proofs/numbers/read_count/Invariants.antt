use Rattle.std.proofs.Common.{◌≡◌, ◌<◌, ◌^◌, take, true}
use Rattle.std.specs.Str.{all_ascii_digits}
use Rattle.std.specs.Str.Parse.{digits_value}
use Rattle.table_text.proofs.numbers.read_count.Given as goal

abbrev pub invariant-loop-b : goal.invariant-loop-b
invariant-loop-b l = (all_ascii_digits (take l.b-index l.text) ≡ true) × (l.value ≡ digits_value 10 (take l.b-index l.text)) × (l.value < 2 ^ 128)
