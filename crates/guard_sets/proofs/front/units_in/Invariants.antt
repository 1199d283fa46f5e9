use Rattle.std.proofs.Common.{◌≡◌, take}
use Rattle.definitions.specs.Sets.{set_sum, units_of}
use Rattle.guard_sets.proofs.front.units_in.Given as goal

abbrev pub invariant-loop-cell : goal.invariant-loop-cell
invariant-loop-cell l = l.units ≡ set_sum (units_of l.x) (take l.cell-index l.cells)
