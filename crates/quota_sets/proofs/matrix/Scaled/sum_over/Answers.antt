use Rattle.std.proofs.Common.{◌<◌, length, arith}
use Rattle.definitions.specs.Sets.{cell_of}
use Rattle.quota_sets.proofs.SumLemmas.{set_sum-fits}
use Rattle.quota_sets.proofs.matrix.Scaled.sum_over.Goals as goal

pub overflow_add-total : goal.overflow_add-total
overflow_add-total c =
    let same = c.cells-cell-items.ensures.value in
    let within : c.loop-cell.cell-index < length c.args.set.now.cells = rw same at c.loop-cell-test.true in
    let unit = rw same at c.at-total.ensures.value in
    let fits = set_sum-fits c.args.self.now c.args.set.now c.loop-cell.cell-index (cell_of 0 0) c.at-total.ensures.lawful c.cells-cell-items.ensures.lawful c.requires within in
    omega (arith, c.loop-cell.invariant, unit, fits)
