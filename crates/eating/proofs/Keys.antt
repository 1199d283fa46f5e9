-- The earliest moment at which an open limit is full, and the step to it.
use Rattle.std.proofs.Common.{◌≡◌, ℕ, ◌+◌, ◌*◌, ◌<◌, ◌≤◌, ap, sym, ◌∙◌, subst, arith, mul_comm, mul-le-mul_left}
use Rattle.std.specs.Prelude.{◌/◌}
use Rattle.std.specs.Int.{◌∣◌}
use Rattle.std.proofs.Math.Nat.{eq_of_mul-eq-mul_left, lt_of_mul-lt-mul_left, mul-div_cancel', mul-lt-mul_of_pos_left, dvd-mul_right, dvd-mul_left, mul-pos}
use Rattle.frac128.specs.Lcm.{IsLcm}
use Rattle.eating.specs.Orders.{le_from_product}
use Rattle.frac128.specs.Measure.{multiple_of_lowest, factor_positive}

-- a key in the finer unit: the limit isn't passed before the moment
pub key_order : (U u v r k l c w unit : ℕ) → 0 < U → c * U ≡ unit → w * l ≡ unit → k * (U * v) ≤ (u * v + r) * l → v * (k * w) ≤ v * (c * u) + c * r
key_order U u v r k l c w unit p one two h =
    le_from_product U (v * (k * w)) (v * (c * u) + c * r) p
    (let g : w * (k * (U * v)) ≤ w * ((u * v + r) * l) = mul-le-mul_left w h in
    let same : (u * v + r) * (w * l) ≡ (u * v + r) * (c * U) = ap (λ n. (u * v + r) * n) (two ∙ sym one) in
    omega arith)

pub key_equal : (U u v r k l c w unit : ℕ) → 0 < U → c * U ≡ unit → w * l ≡ unit → k * (U * v) ≡ (u * v + r) * l → v * (k * w) ≡ v * (c * u) + c * r
key_equal U u v r k l c w unit p one two h =
    eq_of_mul-eq-mul_left U p (v * (k * w)) (v * (c * u) + c * r)
    (let g : w * (k * (U * v)) ≡ w * ((u * v + r) * l) = ap (λ n. w * n) h in
    let same : (u * v + r) * (w * l) ≡ (u * v + r) * (c * U) = ap (λ n. (u * v + r) * n) (two ∙ sym one) in
    omega arith)

-- a key before the end is below 1
pub key_below_one : (k l a b : ℕ) → k * a ≡ b * l → b < a → 0 < l → k < l
key_below_one k l a b h less p =
    lt_of_mul-lt-mul_left a (let f : l * b < l * a = mul-lt-mul_of_pos_left less p in omega arith)

-- below the least common multiple of a fraction's denominator and another number
pub multiple_positive : (a b l : ℕ) → IsLcm a b l → 0 < a → 0 < b → 0 < l
multiple_positive a b l h p q =
    let whole : l * (a * b / l) ≡ a * b = mul-div_cancel' l (h.least (a * b) (dvd-mul_right a b) (dvd-mul_left b a)) in
    factor_positive (a * b / l) l (a * b) (mul_comm (a * b / l) l ∙ whole) (mul-pos p q)

-- the denominator of a key divides the unit times the speed
pub key_divides : (k l a b : ℕ) → k * a ≡ b * l → 0 < a → 0 < l → ((f : ℕ) → f ∣ k → f ∣ l → f ≤ 1) → l ∣ a
key_divides k l a b h p q low =
    let x = multiple_of_lowest a l (λ j. b) (λ j. k) p q (λ j. sym h) (λ f m n. low f (n 0) m) in
    subst (λ n. l ∣ n) (mul_comm l x.0 ∙ sym x.1) (dvd-mul_right l x.0)
