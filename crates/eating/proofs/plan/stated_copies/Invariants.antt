use Rattle.std.proofs.Common.{◌≡◌, ◌-◌, take}
use Rattle.eating.proofs.plan.stated_copies.Given as goal

abbrev pub invariant-loop-set : goal.invariant-loop-set
invariant-loop-set l = l.sets.items ≡ take (l.set - 1) l.problem.family.sets
