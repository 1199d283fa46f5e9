use Rattle.std.proofs.Common.{arith}
use Rattle.plane_kernel.proofs.Words.{ones_step, ones_bound}
use Rattle.plane_kernel.proofs.count.Goals as goal

pub overflow_add-ones : goal.overflow_add-ones
overflow_add-ones c =
    let step = ones_step c.loop-at.at 8 c.args.a.now in
    let top = ones_bound c.args.a.now c.type_inv.a in
    record { fits = omega (arith, step, top, c.loop-at.invariant.left, c.count_lanes-ones.ensures) }

pub loop-at-preserved : goal.loop-at-preserved
loop-at-preserved c =
    let step = ones_step c.loop-at.at 8 c.args.a.now in
    record { within = omega arith; left = omega (arith, step, c.loop-at.invariant.left, c.count_lanes-ones.ensures) }

pub overflow_add-result : goal.overflow_add-result
overflow_add-result c =
    let top = ones_bound c.args.a.now c.type_inv.a in
    record { fits = omega (arith, top, c.loop-at.invariant.left, c.count_rest.ensures) }
