use Rattle.std.proofs.Common.{◌≡◌, take}
use Rattle.guard_sets.proofs.family.copy_of.Given as goal

abbrev pub invariant-loop-index : goal.invariant-loop-index
invariant-loop-index l = l.copy ≡ record l.family { sets = take l.index l.family.sets }
