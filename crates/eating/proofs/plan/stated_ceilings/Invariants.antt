use Rattle.std.proofs.Common.{◌≡◌, ◌-◌, take, map}
use Rattle.definitions.specs.Sets.{SetValue}
use Rattle.eating.proofs.plan.stated_ceilings.Given as goal

abbrev pub invariant-loop-set : goal.invariant-loop-set
invariant-loop-set l = l.ceilings.items ≡ map (λ (s : SetValue). s.ceiling) (take (l.set - 1) l.problem.family.sets)
