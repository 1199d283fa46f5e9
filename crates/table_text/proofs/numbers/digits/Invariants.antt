use Rattle.std.proofs.Common.{◌≡◌, ◌<◌, ◌≤◌, ◌^◌, ◌++◌, drop, length}
use Rattle.std.specs.Fmt.{decimal}
use Rattle.table_text.proofs.numbers.digits.Given as goal

abbrev pub invariant-loop-rest : goal.invariant-loop-rest
invariant-loop-rest l = (decimal l.n ≡ decimal l.rest ++ drop l.at l.text) × (l.rest < 10 ^ l.at) × (l.rest ≤ l.n) × (l.at ≤ 39) × (0 < l.at) × (length l.text ≡ 39)

abbrev pub decreases-loop-rest : goal.decreases-loop-rest
decreases-loop-rest l = l.rest
