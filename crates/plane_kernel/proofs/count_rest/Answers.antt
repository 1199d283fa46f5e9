use Rattle.std.proofs.Common.{arith}
use Rattle.plane_kernel.proofs.Words.{ones_bound, ones_front, ones_next}
use Rattle.plane_kernel.proofs.count_rest.Goals as goal

pub overflow_add-ones : goal.overflow_add-ones
overflow_add-ones c =
    let step = ones_next c.loop-i.i c.args.a.now (omega arith) in
    let top = ones_bound c.args.a.now c.type_inv.a in
    let part = ones_front c.args.from c.args.a.now in
    record { fits = omega (arith, step, top, part, c.loop-i.invariant) }
