use Rattle.std.proofs.Common.{arith}
use Rattle.scaled_matrix.proofs.Units.{unit_bound}
use Rattle.scaled_matrix.proofs.scaling.unit_count.Goals as goal

pub overflow_mul-result : goal.overflow_mul-result
overflow_mul-result c =
    let bound = unit_bound c.args.share.num c.args.share.den c.args.denominator c.requires.limit c.requires.divides in
    rw (c.num.ensures, c.den.ensures) (omega (arith, bound))

pub returns-clause-bound : goal.returns-clause-bound
returns-clause-bound c =
    rw (c.num.ensures, c.den.ensures) (unit_bound c.args.share.num c.args.share.den c.args.denominator c.requires.limit c.requires.divides)
