use Rattle.std.proofs.Common.{arith}
use Rattle.table_text.proofs.ShareFacts.{quotient-no-num, quotient-some}
use Rattle.table_text.proofs.shares.read_quotient.Goals as goal

pub returns-in_err-num-clause-value : goal.returns-in_err-num-clause-value
returns-in_err-num-clause-value c = rw c.from_residual.ensures (quotient-no-num c.args.text.now (rw c.parts_at.ensures.before at c.in_err-num.ensures))

pub returns-clause-value : goal.returns-clause-value
returns-clause-value c =
    quotient-some c.args.text.now _ _ (rw c.parts_at.ensures.before at c.in_ok-num.ensures) (rw c.parts_at.ensures.after at c.in_ok-den.ensures) (λ z. omega (arith, z))
