-- The step to the earliest moment, in numbers alone.
use Rattle.std.proofs.Common.{◌≡◌, ℕ, suc, zero, ◌+◌, ◌-◌, ◌*◌, ◌<◌, ◌≤◌, List, length, ap, sym, ◌∙◌, arith, mul_comm, mul_assoc, subst}
use Rattle.std.specs.Prelude.{slice_index, ◌/◌}
use Rattle.std.proofs.Math.Nat.{mul-add, mul-lt-mul_of_pos_left, le_of_mul-le-mul_right, le_of_dvd, dvd-mul_right, mul-pos, mul-div_cancel'}
use Rattle.frac128.specs.Lcm.{IsLcm}
use Rattle.frac128.specs.Measure.{factor_positive}
use Rattle.frac128.specs.Fraction.{numerator, denominator}
use Rattle.frac128.specs.declared.fractions.Fraction.{Fraction}
use Rattle.eating.specs.Steps.{IsEarliest, IsWithin}
use Rattle.eating.proofs.Keys.{key_order, key_equal, key_below_one, key_divides, multiple_positive}

module _ (U u : ℕ) (e rests speeds : List ℕ) (unit_positive : 0 < U) (m : Fraction) (next : IsEarliest U u (length e) e rests speeds m) (U' : ℕ) (least : IsLcm U (denominator m) U') where
  pub new_positive : 0 < U'
  new_positive = multiple_positive U (denominator m) U' least unit_positive m.positive

  speed_positive : 0 < slice_index speeds next.limit
  speed_positive = some (slice_index speeds next.limit) next.key.before_end
    where
      some : (v : ℕ) → u * v + slice_index rests next.limit < U * v → 0 < v
      some zero h = absurd (omega arith)
      some (suc v) h = omega arith

  -- the new unit isn't above the old one times the speed of the limit
  pub new_within : U' ≤ U * slice_index speeds next.limit
  new_within =
      let end : 0 < U * slice_index speeds next.limit = mul-pos unit_positive speed_positive in
      le_of_dvd end (least.least (U * slice_index speeds next.limit) (dvd-mul_right U (slice_index speeds next.limit))
      (key_divides (numerator m) (denominator m) (U * slice_index speeds next.limit) (u * slice_index speeds next.limit + slice_index rests next.limit) next.key.value end m.positive m.lowest))

  module _ (c w : ℕ) (one : c * U ≡ U') (two : w * denominator m ≡ U') where
    pub factor_some : 0 < c
    factor_some = factor_positive U c U' (mul_comm U c ∙ one) new_positive

    -- the moment is before the end
    pub moment_below : numerator m * w < U'
    moment_below =
        let j = next.limit in
        let below : numerator m < denominator m = key_below_one (numerator m) (denominator m) (U * slice_index speeds j) (u * slice_index speeds j + slice_index rests j) next.key.value next.key.before_end m.positive in
        let more : w * numerator m < w * denominator m = mul-lt-mul_of_pos_left below (factor_positive (denominator m) w U' (mul_comm (denominator m) w ∙ two) new_positive) in
        omega (arith, more, two, mul_comm (numerator m) w)

    key_is : slice_index speeds next.limit * (numerator m * w) ≡ slice_index speeds next.limit * (c * u) + c * slice_index rests next.limit
    key_is = key_equal U u (slice_index speeds next.limit) (slice_index rests next.limit) (numerator m) (denominator m) c w U' unit_positive one two next.key.value

    -- and not before the present moment
    pub moment_after : c * u ≤ numerator m * w
    moment_after =
        let v = slice_index speeds next.limit in
        let more : v * (c * u) ≤ v * (numerator m * w) = omega (arith, key_is) in
        le_of_mul-le-mul_right (omega (arith, more, mul_comm v (c * u), mul_comm v (numerator m * w))) speed_positive

    module _ (s : ℕ) (sum : c * u + s ≡ numerator m * w) where
      -- until then no open limit is passed
      pub slow : (j : ℕ) → j < length e → slice_index e j ≡ U → slice_index speeds j * s ≤ c * slice_index rests j
      slow j inside o =
          let order = key_order U u (slice_index speeds j) (slice_index rests j) (numerator m) (denominator m) c w U' unit_positive one two (next.least j inside o) in
          let at = ap (λ n. slice_index speeds j * n) sum in
          omega (arith, order, at, mul-add (slice_index speeds j) (c * u) s)

      -- and the limit whose moment it is is full
      pub limit_full : slice_index speeds next.limit * s ≡ c * slice_index rests next.limit
      limit_full =
          let at = ap (λ n. slice_index speeds next.limit * n) sum in
          omega (arith, key_is, at, mul-add (slice_index speeds next.limit) (c * u) s)

-- what the step needs, by the numbers as they are read
pub record IsGoing (U u : ℕ) (e rests speeds : List ℕ) (m : Fraction) (unit den num : ℕ) : Type 0 where
  pub positive : 1 ≤ unit / U
  pub one : unit / U * U ≡ unit
  pub after : unit / U * u ≤ num * (unit / den)
  pub below : num * (unit / den) < unit
  pub value : num * (unit / den) * denominator m ≡ numerator m * unit
  pub unpassed : (j : ℕ) → j < length e → slice_index e j ≡ U → slice_index speeds j * (num * (unit / den) - unit / U * u) ≤ unit / U * slice_index rests j

pub going : (U u : ℕ) (e rests speeds : List ℕ) → IsWithin U u e rests speeds → (m : Fraction) → IsEarliest U u (length e) e rests speeds m → (unit first den num : ℕ) → first ≡ denominator m → den ≡ denominator m → num ≡ numerator m
    → IsLcm U first unit → IsGoing U u e rests speeds m unit den num
going U u e rests speeds h m next unit first den num p q t lcm =
    subst (λ d. IsGoing U u e rests speeds m unit d num) (sym q) (subst (λ n. IsGoing U u e rests speeds m unit (denominator m) n) (sym t) (record {
      positive = (let f = factor_some U u e rests speeds pos m next unit least (unit / U) (unit / denominator m) one two in omega arith);
      one = one;
      after = after;
      below = moment_below U u e rests speeds pos m next unit least (unit / U) (unit / denominator m) one two;
      value = mul_assoc (numerator m) (unit / denominator m) (denominator m) ∙ ap (λ n. numerator m * n) two;
      unpassed = slow U u e rests speeds pos m next unit least (unit / U) (unit / denominator m) one two (numerator m * (unit / denominator m) - unit / U * u) (omega (arith, after));
    }))
  where
    pos : 0 < U
    pos = (let k = h.before_end in omega arith)

    least : IsLcm U (denominator m) unit
    least = subst (λ n. IsLcm U n unit) p lcm

    one : unit / U * U ≡ unit
    one = mul_comm (unit / U) U ∙ mul-div_cancel' U least.first

    two : unit / denominator m * denominator m ≡ unit
    two = mul_comm (unit / denominator m) (denominator m) ∙ mul-div_cancel' (denominator m) least.second

    after : unit / U * u ≤ numerator m * (unit / denominator m)
    after = moment_after U u e rests speeds pos m next unit least (unit / U) (unit / denominator m) one two
