use Rattle.std.proofs.Common.{◌≡◌, length}
use Rattle.layer_tests.proofs.scales.row.Given as goal

abbrev pub invariant-loop-i : goal.invariant-loop-i
invariant-loop-i l = length l.objects ≡ l.i-counter
