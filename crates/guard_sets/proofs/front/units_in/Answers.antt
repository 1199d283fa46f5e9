use Rattle.std.proofs.Common.{arith}
use Rattle.definitions.specs.Sets.{cell_of}
use Rattle.guard_sets.proofs.Sums.{sum_fits}
use Rattle.guard_sets.proofs.front.units_in.Goals as goal

pub overflow_add-units : goal.overflow_add-units
overflow_add-units c =
    let fits = sum_fits c.args.x.now c.args.cells.now c.loop-cell.cell-index (cell_of 0 0) c.at-units.ensures.lawful c.requires.rise c.requires.inside c.loop-cell-test.true in
    omega (arith, fits, c.loop-cell.invariant, c.at-units.ensures.value)
