use Rattle.std.proofs.Common.{◌≡◌, ℕ, ◌+◌, ◌*◌, ◌/◌, ap, ◌∙◌, subst, arith, mul_left_comm}
use Rattle.std.proofs.Math.Nat.{mul-div_cancel'}
use Rattle.frac128.proofs.fractions.Fraction.later.Goals as goal

-- self + rest / (unit · rate), where the unit is the denominator of self times q
sum_of : (num den q rate rest top below : ℕ) → top * (den * q * rate) ≡ (num * q * rate + rest) * below
    → top * (den * (den * q * rate)) ≡ below * (num * (den * q * rate) + rest * den)
sum_of num den q rate rest top below e =
    mul_left_comm top den (den * q * rate) ∙ ap (λ n. den * n) e ∙ turned
  where
    turned : den * ((num * q * rate + rest) * below) ≡ below * (num * (den * q * rate) + rest * den)
    turned = omega arith

pub returns : goal.returns
returns c =
    let self = c.args.self in
    let q = c.args.unit / self.den in
    let made = c.new.result in
    subst
    (λ u. made.num * (u * c.args.rate) ≡ (self.num * q * c.args.rate + c.args.rest) * made.den
    → made.num * (self.den * (u * c.args.rate)) ≡ made.den * (self.num * (u * c.args.rate) + c.args.rest * self.den))
    (mul-div_cancel' self.den c.requires.divides)
    (sum_of self.num self.den q c.args.rate c.args.rest made.num made.den)
    c.new.ensures
