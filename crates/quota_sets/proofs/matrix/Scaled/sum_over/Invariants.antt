use Rattle.std.proofs.Common.{◌≡◌, take}
use Rattle.definitions.specs.Sets.{units_of, set_sum}
use Rattle.quota_sets.proofs.matrix.Scaled.sum_over.Given as goal

abbrev pub invariant-loop-cell : goal.invariant-loop-cell
invariant-loop-cell l = l.total ≡ set_sum (units_of l.self) (take l.cell-index l.set.cells)
