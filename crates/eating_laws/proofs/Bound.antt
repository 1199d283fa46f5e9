-- The bound on denominators: by the sum of demands and the number of moments.
use Rattle.std.proofs.Common.{◌≡◌, ℕ, suc, zero, ◌+◌, ◌-◌, ◌*◌, ◌<◌, ◌≤◌, List, length, true, ap, sym, ◌∙◌, subst, inl, inr, arith, mul_comm, mul_assoc}
use Rattle.std.specs.Prelude.{min, ◌⊎◌, ◌/◌, ◌^◌, nat_lt, nat_eq}
use Rattle.std.specs.Int.{◌∣◌}
use Rattle.std.specs.Set.{is_member}
use Rattle.std.proofs.Math.Nat.{mul-add, mul-div_cancel', dvd-mul_right, dvd-mul_left, dvd-mul_left_of_dvd, dvd-sub, dvd-add, dvd-zero, dvd_trans, le_of_dvd, pow-zero, pow-suc, pow-le-pow_right, mul-le-mul, mul-le-mul_right}
use Rattle.std.proofs.lemmas.Bool.{cases_lt}
use Rattle.std.proofs.lemmas.List.Sums.{count_by-le-length}
use Rattle.definitions.specs.Values.{Market}
use Rattle.definitions.specs.Eating.{moment_at, eaten_by, limit_cells, limit_ceiling, demand_sum, IsEatingTable, IsLowestTerms, IsPartialTable}
use Rattle.frac128.specs.Measure.{HasMeasure, common_measure, factor_positive}
use Rattle.eating_laws.proofs.Sums.{speed_of, speed_le, eaten_rate, eaten_multiple}
use Rattle.eating_laws.proofs.Right.{IsRightBelow, eating_right, partial_right}
use Rattle.eating_laws.proofs.Moments.{find_moment, below, below_more, below_rises}

-- so far: `part` divides D and the numbers below t, which are at most `last`, and what it leaves of D is within the bound
record IsBoundedBelow (D n t : ℕ) (e ms : List ℕ) : Type 0 where
  part : ℕ
  rest : ℕ
  last : ℕ
  whole : part * rest ≡ D
  divides : (j : ℕ) → j < length e → moment_at e j < t → part ∣ moment_at e j
  divides_last : part ∣ last
  last_below : last ≤ t - 1
  last_most : (j : ℕ) → j < length e → moment_at e j < t → moment_at e j ≤ last
  small : rest ≤ n ^ below ms t

power_more : (n i j : ℕ) → 0 < n → i ≤ j → n ^ i ≤ n ^ j
power_more n i j h k = pow-le-pow_right h k

power_step : (n c k i j : ℕ) → 0 < n → c ≤ n ^ i → k ≤ n → suc i ≤ j → c * k ≤ n ^ j
power_step n c k i j h p q l =
    let both : c * k ≤ n ^ i * n = mul-le-mul p q in
    let next : n ^ suc i ≡ n ^ i * n = pow-suc n i in
    let more : n ^ suc i ≤ n ^ j = pow-le-pow_right h l in
    omega arith

module _ (market : Market) (D r : ℕ) (e ms : List ℕ) (h : IsRightBelow market D r e) (eaters : 0 < demand_sum market)
    (known : (j : ℕ) → j < length e → moment_at e j < r → is_member nat_eq ms (moment_at e j) ≡ true) where
  start : IsBoundedBelow D (demand_sum market) 0 e ms
  start = record {
    part = D;
    rest = 1;
    last = 0;
    whole = (let one : D * 1 ≡ D = omega arith in one);
    divides = λ j l k. absurd (omega arith);
    divides_last = dvd-zero D;
    last_below = omega arith;
    last_most = λ j l k. absurd (omega arith);
    small = one_at_least (demand_sum market) (below ms 0) eaters;
  }
    where
      one_at_least : (n k : ℕ) → 0 < n → 1 ≤ n ^ k
      one_at_least n k p = (let zero_power : n ^ 0 ≡ 1 = pow-zero n in let more : n ^ 0 ≤ n ^ k = pow-le-pow_right p (let z : 0 ≤ k = omega arith in z) in omega arith)

  -- no number is t
  unchanged : (t : ℕ) → IsBoundedBelow D (demand_sum market) t e ms → ((j : ℕ) → j < length e → moment_at e j ≡ t → ⊥) → IsBoundedBelow D (demand_sum market) (t + 1) e ms
  unchanged t b none = record {
    part = b.part;
    rest = b.rest;
    last = b.last;
    whole = b.whole;
    divides = λ j l k. b.divides j l (still (moment_at e j) k (none j l));
    divides_last = b.divides_last;
    last_below = (let k : b.last ≤ t - 1 = b.last_below in omega arith);
    last_most = λ j l k. b.last_most j l (still (moment_at e j) k (none j l));
    small = (let s : b.rest ≤ demand_sum market ^ below ms t = b.small in let p = power_more (demand_sum market) (below ms t) (below ms (t + 1)) eaters (below_more ms t) in omega arith);
  }
    where
      still : (x : ℕ) → x < t + 1 → (x ≡ t → ⊥) → x < t
      still x k other = elim (cases_lt x t) [ inl less ↦ less | inr more ↦ absurd (other (omega arith)) ]

  -- the moment 0
  at_start : IsBoundedBelow D (demand_sum market) 0 e ms → IsBoundedBelow D (demand_sum market) (0 + 1) e ms
  at_start b = record {
    part = b.part;
    rest = b.rest;
    last = b.last;
    whole = b.whole;
    divides = λ j l k. (let none : 0 ≡ moment_at e j = omega arith in subst (λ n. b.part ∣ n) none (dvd-zero b.part));
    divides_last = b.divides_last;
    last_below = (let k : b.last ≤ 0 - 1 = b.last_below in omega arith);
    last_most = λ j l k. omega arith;
    small = (let s : b.rest ≤ demand_sum market ^ below ms 0 = b.small in let p = power_more (demand_sum market) (below ms 0) (below ms (0 + 1)) eaters (below_more ms 0) in omega arith);
  }

  module _ (t : ℕ) (within : suc t < r) (b : IsBoundedBelow D (demand_sum market) (suc t) e ms) (j : ℕ) (l : j < length e) (at : moment_at e j ≡ suc t) where
    abbrev speed : ℕ
    speed = speed_of market D e b.last (limit_cells market j)

    last_within : b.last ≤ t
    last_within = (let k : b.last ≤ suc t - 1 = b.last_below in omega arith)

    -- between the last moment and this one the set is eaten at its speed
    eaten_now : eaten_by market D e (limit_cells market j) (suc t) ≡ eaten_by market D e (limit_cells market j) b.last + speed * (suc t - b.last)
    eaten_now =
        let p = last_within in
        let sum : b.last + (suc t - b.last) ≡ suc t = omega arith in
        subst (λ n. eaten_by market D e (limit_cells market j) n ≡ eaten_by market D e (limit_cells market j) b.last + speed * (suc t - b.last)) sum
        (eaten_rate market D b.last (suc t - b.last) e (limit_cells market j) (let reach : r ≤ D = h.reach in omega arith) (λ i k. side i k (cases_lt (moment_at e i) (suc t))))
      where
        side : (i : ℕ) → i < length e → (moment_at e i < suc t) ⊎ (suc t ≤ moment_at e i) → (moment_at e i ≤ b.last) ⊎ (b.last + (suc t - b.last) ≤ moment_at e i)
        side i k (inl less) = inl (b.last_most i k less)
        side i k (inr more) = inr (let p = last_within in omega arith)

    full_now : eaten_by market D e (limit_cells market j) (suc t) ≡ limit_ceiling market j * D
    full_now = (h.right (suc t) within).now j l at

    open_before : eaten_by market D e (limit_cells market j) b.last < limit_ceiling market j * D
    open_before = (let p = last_within in (h.right b.last (omega arith)).later j l (omega arith))

    speed_positive : 0 < speed
    speed_positive = positive speed (suc t - b.last) (let a = eaten_now in let f = full_now in let o = open_before in omega (arith, a, f, o))
      where
        positive : (v s : ℕ) → 0 < v * s → 0 < v
        positive zero s k = omega arith
        positive (suc v) s k = omega arith

    part_divides : b.part ∣ speed * suc t
    part_divides =
        let p = last_within in
        let reach : r ≤ D = h.reach in
        let in_whole : b.part ∣ limit_ceiling market j * D = dvd-mul_left_of_dvd b.part (subst (λ n. b.part ∣ n) b.whole (dvd-mul_right b.part b.rest)) (limit_ceiling market j) in
        let end : b.last ≡ min b.last D = omega arith in
        let in_before : b.part ∣ eaten_by market D e (limit_cells market j) b.last =
        eaten_multiple market b.part D b.last e (limit_cells market j) (subst (λ n. b.part ∣ n) end b.divides_last) (λ i k. number i k (cases_lt (moment_at e i) (suc t))) in
        let gone : limit_ceiling market j * D - eaten_by market D e (limit_cells market j) b.last ≡ speed * (suc t - b.last) = (let a = eaten_now in let f = full_now in omega (arith, a, f)) in
        let in_rest : b.part ∣ speed * (suc t - b.last) = subst (λ n. b.part ∣ n) gone (dvd-sub b.part in_whole in_before) in
        let in_last : b.part ∣ speed * b.last = dvd-mul_left_of_dvd b.part b.divides_last speed in
        let sum : speed * (suc t - b.last) + speed * b.last ≡ speed * suc t = sym (mul-add speed (suc t - b.last) b.last) ∙ ap (λ n. speed * n) (let s : suc t - b.last + b.last ≡ suc t = omega arith in s) in
        subst (λ n. b.part ∣ n) sum (dvd-add b.part in_rest in_last)
      where
        number : (i : ℕ) → i < length e → (moment_at e i < suc t) ⊎ (suc t ≤ moment_at e i) → b.part ∣ min b.last (moment_at e i)
        number i k (inl less) =
            (let most : moment_at e i ≤ b.last = b.last_most i k less in let same : moment_at e i ≡ min b.last (moment_at e i) = omega arith in subst (λ n. b.part ∣ n) same (b.divides i k less))
        number i k (inr more) =
            (let p = last_within in let same : b.last ≡ min b.last (moment_at e i) = omega arith in subst (λ n. b.part ∣ n) same b.divides_last)

    part_positive : 0 < b.part
    part_positive = factor_positive b.rest b.part D (mul_comm b.rest b.part ∙ b.whole) (let p = h.positive in omega arith)

    -- the speed and the part have a common measure, by which the part is over this moment too
    measure : HasMeasure speed b.part (λ i. speed * suc t / b.part) (λ i. suc t)
    measure =
        common_measure (speed + b.part) speed b.part (λ i. speed * suc t / b.part) (λ i. suc t) (omega arith) speed_positive part_positive
        (λ i. mul_comm (speed * suc t / b.part) b.part ∙ mul-div_cancel' b.part part_divides ∙ mul_comm speed (suc t))

    now_divides : measure.factor' ∣ suc t
    now_divides = subst (λ n. measure.factor' ∣ n) (measure.parts' 0) (dvd-mul_right measure.factor' (measure.part 0))

    before_divides : measure.factor' ∣ b.part
    before_divides = subst (λ n. measure.factor' ∣ n) measure.whole' (dvd-mul_right measure.factor' measure.unit)

    step : IsBoundedBelow D (demand_sum market) (suc t + 1) e ms
    step = record {
      part = measure.factor';
      rest = b.rest * measure.unit;
      last = suc t;
      whole = whole;
      divides = λ i k m. number i k m (cases_lt (moment_at e i) (suc t));
      divides_last = now_divides;
      last_below = omega arith;
      last_most = λ i k m. omega arith;
      small =
          power_step (demand_sum market) b.rest measure.unit (below ms (suc t)) (below ms (suc t + 1)) eaters b.small unit_small
          (below_rises ms (suc t) (subst (λ n. is_member nat_eq ms n ≡ true) at (known j l (omega arith))));
    }
      where
        whole : measure.factor' * (b.rest * measure.unit) ≡ D
        whole =
            ap (λ n. measure.factor' * n) (mul_comm b.rest measure.unit) ∙ sym (mul_assoc measure.factor' measure.unit b.rest) ∙ ap (λ n. n * b.rest) measure.whole' ∙ b.whole

        unit_small : measure.unit ≤ demand_sum market
        unit_small =
            let divides : measure.unit ∣ speed = subst (λ n. measure.unit ∣ n) measure.whole (dvd-mul_left measure.unit measure.factor) in
            let le : measure.unit ≤ speed = le_of_dvd speed_positive divides in
            omega (arith, le, speed_le market D b.last e (limit_cells market j))

        number : (i : ℕ) → i < length e → moment_at e i < suc t + 1 → (moment_at e i < suc t) ⊎ (suc t ≤ moment_at e i) → measure.factor' ∣ moment_at e i
        number i k m (inl less) = dvd_trans measure.factor' before_divides (b.divides i k less)
        number i k m (inr more) = (let same : suc t ≡ moment_at e i = omega arith in subst (λ n. measure.factor' ∣ n) same now_divides)

  one_step : (t : ℕ) → t < r → IsBoundedBelow D (demand_sum market) t e ms → IsBoundedBelow D (demand_sum market) (t + 1) e ms
  one_step zero k b = at_start b
  one_step (suc t) k b = elim (find_moment e (suc t)) [
    | inl found ↦ step t k b found.0 found.1 found.2
    | inr none ↦ unchanged (suc t) b none
  ]

  bounded : (t : ℕ) → t ≤ r → IsBoundedBelow D (demand_sum market) t e ms
  bounded zero k = start
  bounded (suc t) k =
      let next : t + 1 ≡ suc t = omega arith in
      subst (λ n. IsBoundedBelow D (demand_sum market) n e ms) next (one_step t (omega arith) (bounded t (omega arith)))

  -- in lowest terms the denominator is within the bound
  pub right_bound : IsLowestTerms D e → D ≤ demand_sum market ^ length ms
  right_bound lowest =
      let b = bounded r (omega arith) in
      let in_end : b.part ∣ D = subst (λ n. b.part ∣ n) b.whole (dvd-mul_right b.part b.rest) in
      let one : b.part ≤ 1 = lowest.lowest b.part in_end (λ j l. number b j l in_end (h.said j l)) in
      let small : b.rest ≤ demand_sum market ^ below ms r = b.small in
      let more = power_more (demand_sum market) (below ms r) (length ms) eaters (count_by-le-length (λ m. nat_lt m r) ms) in
      let least : b.part * b.rest ≤ 1 * b.rest = mul-le-mul_right b.rest one in
      omega (arith, b.whole, least, small, more)
    where
      number : (b : IsBoundedBelow D (demand_sum market) r e ms) (j : ℕ) → j < length e → b.part ∣ D → (moment_at e j < r) ⊎ (moment_at e j ≡ D) → b.part ∣ moment_at e j
      number b j l k (inl less) = b.divides j l less
      number b j l k (inr same) = subst (λ n. b.part ∣ n) (sym same) k

-- of a table up to a moment, with a list of its moments
pub partial_bound : (market : Market) (D m : ℕ) (e ms : List ℕ) → IsPartialTable market D m e → IsLowestTerms D e → 1 ≤ demand_sum market
    → ((j : ℕ) → j < length e → moment_at e j ≤ m → is_member nat_eq ms (moment_at e j) ≡ true) → D ≤ demand_sum market ^ length ms
partial_bound market D m e ms h lowest eaters known =
    right_bound market D (m + 1) e ms (partial_right market D m e h) (omega arith) (λ j l k. known j l (omega arith)) lowest

-- of an eating table, with a list of its moments before the end
pub table_bound : (market : Market) (D : ℕ) (e ms : List ℕ) → IsEatingTable market D e → IsLowestTerms D e → 1 ≤ demand_sum market
    → ((j : ℕ) → j < length e → moment_at e j < D → is_member nat_eq ms (moment_at e j) ≡ true) → D ≤ demand_sum market ^ length ms
table_bound market D e ms h lowest eaters known =
    right_bound market D D e ms (eating_right market D e h) (omega arith) known lowest
