use Rattle.std.proofs.Common.{arith}
use Rattle.definitions.proofs.Problems.{list_short}
use Rattle.cert_check.proofs.prices.falling_at.Goals as goal

pub overflow_add-place : goal.overflow_add-place
overflow_add-place c = omega (arith, (list_short c.args.problem.now c.args.agent c.requires.lawful c.requires.agent).1)

pub overflow_add-result-else-next-own : goal.overflow_add-result-else-next-own
overflow_add-result-else-next-own c = omega (arith, (list_short c.args.problem.now c.args.agent c.requires.lawful c.requires.agent).1)
