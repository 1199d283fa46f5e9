use Rattle.std.proofs.Common.{◌≡◌}
use Rattle.std.specs.Prelude.{flat_map}
use Rattle.std.specs.List.{range_with_len}
use Rattle.definitions.specs.Sets.{units_of}
use Rattle.fairness_core.specs.Envy.{envies_of}
use Rattle.fairness_core.proofs.list.envy_list.Given as goal

abbrev pub invariant-loop-from : goal.invariant-loop-from
invariant-loop-from l = l.list.items ≡ flat_map (envies_of l.problem (units_of l.x)) (range_with_len 0 l.from)
