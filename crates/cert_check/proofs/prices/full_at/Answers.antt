use Rattle.std.proofs.Common.{arith}
use Rattle.definitions.proofs.Families.{stated_count}
use Rattle.cert_check.proofs.prices.full_at.Goals as goal

pub index-price-requires : goal.index-price-requires
index-price-requires c = omega (arith, stated_count c.args.problem.now c.requires.given.problem, c.requires.shape.prices)
