use Rattle.std.proofs.Common.{◌≡◌, ◌++◌, map}
use Rattle.std.specs.List.{range_with_len}
use Rattle.definitions.specs.Fairness.{prefix_set}
use Rattle.guard_sets.proofs.family.add_fronts.Given as goal

abbrev pub invariant-loop-place : goal.invariant-loop-place
invariant-loop-place l = l.family ≡ record l.initial.family { sets = l.initial.family.sets ++ map (prefix_set l.problem l.x l.agent) (range_with_len 1 l.place) }
