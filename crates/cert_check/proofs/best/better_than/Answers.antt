use Rattle.std.proofs.Common.{arith}
use Rattle.definitions.proofs.Problems.{list_short}
use Rattle.cert_check.proofs.best.better_than.Goals as goal

pub overflow_add-result-then-own-better : goal.overflow_add-result-then-own-better
overflow_add-result-then-own-better c = omega (arith, (list_short c.args.problem.now c.args.agent c.requires.priced.problem c.requires.agent).1)

pub overflow_add-result-then-own-better-2 : goal.overflow_add-result-then-own-better-2
overflow_add-result-then-own-better-2 c = omega (arith, (list_short c.args.problem.now c.args.agent c.requires.priced.problem c.requires.agent).1)
