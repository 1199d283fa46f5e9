use Rattle.std.proofs.Common.{arith, mul-le-mul_left}
use Rattle.eating.proofs.progress.Step.limit.Goals as goal

pub overflow_mul-left : goal.overflow_mul-left
overflow_mul-left c =
    let rest = c.requires.rest c.if-moment-self.false in
    omega (arith, rest, c.requires.unit, mul-le-mul_left c.args.self.factor rest)

pub overflow_mul-left-2 : goal.overflow_mul-left-2
overflow_mul-left-2 c =
    let rest = c.requires.rest c.if-moment-self.false in
    omega (arith, rest, c.requires.unit, c.requires.slow c.if-moment-self.false, mul-le-mul_left c.args.self.factor rest)
