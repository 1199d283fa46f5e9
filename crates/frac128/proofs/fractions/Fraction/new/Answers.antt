use Rattle.std.proofs.Common.{◌≡◌, ℕ, ◌*◌, ◌/◌, sym, ap, ◌∙◌, mul_comm, mul_assoc}
use Rattle.std.proofs.Math.Nat.{mul-div_cancel'}
use Rattle.std.specs.Int.{IsGcd}
use Rattle.frac128.specs.Measure.{factor_positive, lowest_over_gcd}
use Rattle.frac128.proofs.fractions.Fraction.new.Goals as goal

pub invariant_of-result : goal.invariant_of-result
invariant_of-result c = record {
  positive = factor_positive c.gcd-common.result (c.args.den / c.gcd-common.result) c.args.den (mul-div_cancel' c.gcd-common.result c.gcd-common.ensures.1) c.requires;
  lowest = lowest_over_gcd c.args.num c.args.den c.gcd-common.result c.gcd-common.ensures c.requires;
}

-- both sides are the common divisor times the two quotients
cross : (a b g : ℕ) → IsGcd a b g → a / g * b ≡ a * (b / g)
cross a b g h =
    ap (λ n. a / g * n) (sym (mul-div_cancel' g h.1)) ∙ sym (mul_assoc (a / g) g (b / g))
    ∙ ap (λ n. n * (b / g)) (mul_comm (a / g) g ∙ mul-div_cancel' g h.0)

pub returns : goal.returns
returns c = cross c.args.num c.args.den c.gcd-common.result c.gcd-common.ensures
