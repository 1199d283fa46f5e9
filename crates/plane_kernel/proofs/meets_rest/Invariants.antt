use Rattle.std.proofs.Common.{◌≡◌, drop}
use Rattle.plane_kernel.specs.Words.{words_meet}
use Rattle.plane_kernel.proofs.meets_rest.Given as goal

abbrev pub invariant-loop-i : goal.invariant-loop-i
invariant-loop-i l = words_meet (drop l.from l.a) (drop l.from l.b) ≡ words_meet (drop l.i l.a) (drop l.i l.b)
