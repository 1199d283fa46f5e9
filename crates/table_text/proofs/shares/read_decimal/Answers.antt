use Rattle.std.proofs.Common.{◌≤◌, ◌^◌, length, arith}
use Rattle.std.proofs.Math.Nat.{pow-le-pow_right, one-le-pow}
use Rattle.table_text.proofs.ShareFacts.{decimal-no-whole, decimal-no-part, decimal-some, decimal-value}
use Rattle.table_text.proofs.shares.read_decimal.Goals as goal

pub returns-in_err-whole-clause-value : goal.returns-in_err-whole-clause-value
returns-in_err-whole-clause-value c =
    rw c.from_residual.ensures (decimal-no-whole c.args.text.now (rw c.parts_at.ensures.before at c.if-before-gt8.false) (rw c.parts_at.ensures.before at c.in_err-whole.ensures))

pub returns-in_err-part-clause-value : goal.returns-in_err-part-clause-value
returns-in_err-part-clause-value c =
    rw c.from_residual-in_err-part.ensures (decimal-no-part c.args.text.now (rw c.parts_at.ensures.after at c.if-after-gt30.false) (rw c.parts_at.ensures.after at c.in_err-part.ensures))

pub pow-den-requires : goal.pow-den-requires
pow-den-requires c = let le : 10 ^ length c.parts_at.result.1.now ≤ 10 ^ 30 = pow-le-pow_right (omega arith) c.if-after-gt30.false in omega (arith, le)

pub overflow_mul-result : goal.overflow_mul-result
overflow_mul-result c =
    let value = decimal-value c.parts_at.result.0.now c.parts_at.result.1.now c.in_ok-whole.whole c.in_ok-part.part c.if-before-gt8.false c.if-after-gt30.false c.in_ok-whole.ensures c.in_ok-part.ensures in
    rw c.pow-den.ensures (omega (arith, value.1))

pub overflow_add-result : goal.overflow_add-result
overflow_add-result c =
    let value = decimal-value c.parts_at.result.0.now c.parts_at.result.1.now c.in_ok-whole.whole c.in_ok-part.part c.if-before-gt8.false c.if-after-gt30.false c.in_ok-whole.ensures c.in_ok-part.ensures in
    rw c.pow-den.ensures (omega (arith, value.1))

pub returns-clause-value : goal.returns-clause-value
returns-clause-value c =
    rw (c.pow-den.ensures, c.parts_at.ensures.after) (decimal-some c.args.text.now c.in_ok-whole.whole c.in_ok-part.part (rw c.parts_at.ensures.before at c.if-before-gt8.false) (rw c.parts_at.ensures.after at c.if-after-gt30.false) (rw c.parts_at.ensures.before at c.in_ok-whole.ensures) (rw c.parts_at.ensures.after at c.in_ok-part.ensures))

pub returns-clause-positive : goal.returns-clause-positive
returns-clause-positive c = rw c.pow-den.ensures (one-le-pow (length c.parts_at.result.1.now) 10 (omega arith))
