use Rattle.std.proofs.Common.{◌≡◌, ◌+◌, drop, ◌≤◌, ◌-◌, length}
use Rattle.plane_kernel.specs.Bits.{ones_in}
use Rattle.plane_kernel.proofs.count.Given as goal

abbrev pub invariant-loop-at : goal.invariant-loop-at
invariant-loop-at l = record { within : l.at ≤ length l.a; left : l.ones + ones_in (drop l.at l.a) ≡ ones_in l.a }

abbrev pub decreases-loop-at : goal.decreases-loop-at
decreases-loop-at l = length l.a - l.at
