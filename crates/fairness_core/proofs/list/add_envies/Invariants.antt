use Rattle.std.proofs.Common.{◌≡◌, ◌++◌}
use Rattle.std.specs.List.{filter_map, range_with_len}
use Rattle.definitions.specs.Sets.{units_of}
use Rattle.fairness_core.specs.Envy.{envy_between}
use Rattle.fairness_core.proofs.list.add_envies.Given as goal

abbrev pub invariant-loop-to : goal.invariant-loop-to
invariant-loop-to l = l.list.items ≡ l.initial.list.items ++ filter_map (envy_between l.problem (units_of l.x) l.from) (range_with_len 0 l.to)
