use Rattle.std.proofs.Common.{arith, length, ap}
use Rattle.definitions.proofs.Problems.{list_short}
use Rattle.eating.proofs.plan.capped_cells.Goals as goal

pub overflow_cast-result : goal.overflow_cast-result
overflow_cast-result c =
    let few = list_short c.args.problem.now c.args.agent c.list.ensures.lawful c.requires in
    omega (arith, few.1, ap length c.list.ensures.value)

pub overflow_sub-result : goal.overflow_sub-result
overflow_sub-result c =
    let few = list_short c.args.problem.now c.args.agent c.list.ensures.lawful c.requires in
    omega (arith, few.0, ap length c.list.ensures.value)
