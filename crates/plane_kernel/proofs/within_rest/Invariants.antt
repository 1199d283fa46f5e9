use Rattle.std.proofs.Common.{◌≡◌, drop}
use Rattle.plane_kernel.specs.Words.{words_within}
use Rattle.plane_kernel.proofs.within_rest.Given as goal

abbrev pub invariant-loop-i : goal.invariant-loop-i
invariant-loop-i l = words_within (drop l.from l.a) (drop l.from l.b) ≡ words_within (drop l.i l.a) (drop l.i l.b)
