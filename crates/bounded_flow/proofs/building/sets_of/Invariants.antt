use Rattle.std.proofs.Common.{◌≡◌, ◌-◌, map, take}
use Rattle.bounded_flow.specs.Nets.{side_set}
use Rattle.bounded_flow.specs.Webs.{held_sets}
use Rattle.bounded_flow.proofs.building.sets_of.Given as goal

abbrev pub invariant-loop-number : goal.invariant-loop-number
invariant-loop-number l = held_sets l.sets.items ≡ map side_set (take (l.number - 1) l.family.sets)
