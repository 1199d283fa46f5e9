use Rattle.std.proofs.Common.{◌≡◌, ◌+◌, drop}
use Rattle.plane_kernel.specs.Bits.{ones_in}
use Rattle.plane_kernel.proofs.count_rest.Given as goal

abbrev pub invariant-loop-i : goal.invariant-loop-i
invariant-loop-i l = l.ones + ones_in (drop l.i l.a) ≡ ones_in (drop l.from l.a)
