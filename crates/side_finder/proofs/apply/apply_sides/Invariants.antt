use Rattle.std.proofs.Common.{◌≡◌, ◌-◌, take}
use Rattle.side_finder.specs.Applied.{with_sides}
use Rattle.side_finder.proofs.apply.apply_sides.Given as goal

abbrev pub invariant-loop-number : goal.invariant-loop-number
invariant-loop-number l = l.applied ≡ record (with_sides l.family l.sides) { sets = take (l.number - 1) (with_sides l.family l.sides).sets }
