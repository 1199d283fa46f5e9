use Rattle.std.proofs.Common.{◌≡◌, take}
use Rattle.definitions.specs.Sets.{cells_in}
use Rattle.guard_sets.proofs.size.family_cells.Given as goal

abbrev pub invariant-loop-index : goal.invariant-loop-index
invariant-loop-index l = l.cells ≡ cells_in (take l.index l.family.sets)
