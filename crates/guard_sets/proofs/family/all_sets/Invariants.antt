use Rattle.std.proofs.Common.{◌≡◌, ◌++◌}
use Rattle.std.specs.Prelude.{flat_map}
use Rattle.std.specs.List.{range_with_len}
use Rattle.guard_sets.specs.Guard.{fronts_of}
use Rattle.guard_sets.proofs.family.all_sets.Given as goal

abbrev pub invariant-loop-agent : goal.invariant-loop-agent
invariant-loop-agent l = l.family ≡ record l.problem.family { sets = l.problem.family.sets ++ flat_map (fronts_of l.problem l.x) (range_with_len 0 l.agent) }
