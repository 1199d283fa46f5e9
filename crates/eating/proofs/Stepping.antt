-- The step to the earliest moment at which an open limit is full.
use Rattle.std.proofs.Common.{◌≡◌, ℕ, suc, zero, ◌+◌, ◌-◌, ◌*◌, ◌<◌, ◌≤◌, List, length, map, refl, ap, sym, ◌∙◌, subst, inl, inr, arith, mul_comm, mul_assoc, mul-le-mul_left}
use Rattle.std.specs.Prelude.{◌/◌, ◌⊎◌, ◌^◌, slice_index}
use Rattle.std.specs.Int.{◌∣◌}
use Rattle.std.proofs.Math.Nat.{mul_left_comm, eq_of_mul-eq-mul_left, mul-div_cancel', le_of_dvd, dvd-mul_right, dvd-mul_left, mul-pos, dvd-zero}
use Rattle.std.proofs.lemmas.Bool.{cases_lt, cases_order}
use Rattle.std.proofs.lemmas.List.{get_or_past, length-map}
use Rattle.definitions.specs.Values.{Market}
use Rattle.definitions.specs.Eating.{eaten_by, moment_at, limit_cells, limit_ceiling, IsLowestTerms, IsPartialTable, IsFirstTooFine}
use Rattle.eating_laws.proofs.Full.{moments_scaled}
use Rattle.eating_laws.proofs.Right.{IsRightBelow, right_partial}
use Rattle.frac128.specs.Lcm.{IsLcm}
use Rattle.frac128.specs.Measure.{multiple_of_lowest, factor_positive}
use Rattle.frac128.specs.Fraction.{numerator, denominator}
use Rattle.frac128.specs.declared.fractions.Fraction.{Fraction}
use Rattle.eating.specs.Steps.{IsReady, IsAdvanced, AreAdvanced, IsEarliest}
use Rattle.eating.proofs.Between.{LimitAt, some_left, next_right, next_left, ready_scale}
use Rattle.eating.proofs.Between.LimitAt.{early, filled, still}
use Rattle.eating.proofs.Going.{new_positive, factor_some, moment_below, limit_full}

module _ (market : Market) (U u : ℕ) (e rests speeds : List ℕ) (ready : IsReady market U u e (λ j. slice_index rests j) (λ j. slice_index speeds j))
    (lowest : IsLowestTerms U e) (m : Fraction) (next : IsEarliest U u (length e) e rests speeds m)
    (U' : ℕ) (least : IsLcm U (denominator m) U') (c w s : ℕ) (one : c * U ≡ U') (two : w * denominator m ≡ U') (sum : c * u + s ≡ numerator m * w) where
  unit_positive : 0 < U
  unit_positive = (let p : 1 ≤ U = ready.right.positive in omega arith)

  new_above : 0 < U'
  new_above = new_positive U u e rests speeds unit_positive m next U' least

  factor_above : 0 < c
  factor_above = factor_some U u e rests speeds unit_positive m next U' least c w one two

  below : c * u + s < U'
  below = (let h = moment_below U u e rests speeds unit_positive m next U' least c w one two in omega (arith, h, sum))

  full : slice_index speeds next.limit * s ≡ c * slice_index rests next.limit
  full = limit_full U u e rests speeds unit_positive m next U' least c w one two s sum

  step_some : (n : ℕ) → n ≡ s → 0 < n
  step_some zero same =
      let j = next.limit in
      let left : 0 < slice_index rests j = some_left market U u e (λ j. slice_index rests j) (λ j. slice_index speeds j) ready j next.known next.is_open in
      let more : 0 < c * slice_index rests j = mul-pos factor_above left in
      let none : slice_index speeds j * s ≡ slice_index speeds j * 0 = ap (λ n. slice_index speeds j * n) (sym same) in
      absurd (omega (arith, full, more, none))
  step_some (suc n) same = omega arith

  scaled : IsReady market (c * U) (c * u) (map (λ x. c * x) e) (λ j. c * slice_index rests j) (λ j. slice_index speeds j)
  scaled = ready_scale market c U u e (λ j. slice_index rests j) (λ j. slice_index speeds j) factor_above ready

  module _ (e' rests' : List ℕ) (limits : AreAdvanced U c s (c * u + s) e rests speeds e' rests') where
    abbrev At : ℕ → Type 0
    At j = LimitAt market (c * U) (c * u) (map (λ x. c * x) e) (λ j. c * slice_index rests j) (λ j. slice_index speeds j) scaled (c * u + s)
        (moment_at (map (λ x. c * x) e) j) (moment_at e' j) (c * slice_index rests j) (slice_index speeds j)

    speed_is : (j : ℕ) → slice_index speeds j * (c * u + s - c * u) ≡ slice_index speeds j * s
    speed_is j = ap (λ n. slice_index speeds j * n) (let f : c * u + s - c * u ≡ s = omega arith in f)

    limit_at : (j : ℕ) → j < length e → At j
    limit_at j inside = cases (ready.right.said j inside)
      where
        a : IsAdvanced U c s (c * u + s) (slice_index e j) (slice_index rests j) (slice_index speeds j) (slice_index e' j) (slice_index rests' j)
        a = limits.each j inside

        opened : moment_at e j ≡ U → (0 < slice_index rests' j) ⊎ (slice_index rests' j ≡ 0) → At j
        opened o (inl p) =
            still (moments_scaled c e j ∙ ap (λ x. c * x) o) (omega (arith, speed_is j, a.left o, p)) (a.later o p)
        opened o (inr p) =
            filled (moments_scaled c e j ∙ ap (λ x. c * x) o) (speed_is j ∙ (let f = a.left o in omega (arith, f, p))) (a.now o p)

        cases : (moment_at e j < u + 1) ⊎ (moment_at e j ≡ U) → At j
        cases (inl p) =
            let le : c * moment_at e j ≤ c * u = mul-le-mul_left c (let q : moment_at e j ≤ u = omega arith in q) in
            early (omega (arith, le, moments_scaled c e j)) (a.full (λ o. (let q : u + 1 ≤ U = ready.right.reach in omega arith)) ∙ sym (moments_scaled c e j))
        cases (inr o) = opened o (elim (cases_lt 0 (slice_index rests' j)) [ inl p ↦ inl p | inr p ↦ inr (omega arith) ])

    many : length e' ≡ length (map (λ x. c * x) e)
    many = limits.many ∙ sym (length-map e (λ x. c * x))

    inside_map : {j : ℕ} → j < length (map (λ x. c * x) e) → j < length e
    inside_map {j} p = omega (arith, p, length-map e (λ x. c * x))

    high : c * u + s < c * U
    high = omega (arith, below, one)

    low : c * u < c * u + s
    low = (let p = step_some s refl in omega arith)

    -- the table is right up to the moment
    pub step_right : IsRightBelow market (c * U) (c * u + s + 1) e'
    step_right =
        next_right market (c * U) (c * u) (map (λ x. c * x) e) (λ j. c * slice_index rests j) (λ j. slice_index speeds j) scaled (c * u + s) e' low high many
        (λ j p. limit_at j (inside_map p))

    -- what the open limits have left then
    pub step_left : (j : ℕ) → j < length e' → moment_at e' j ≡ c * U → slice_index rests' j + eaten_by market (c * U) e' (limit_cells market j) (c * u + s) ≡ limit_ceiling market j * (c * U)
    step_left j p o =
        let inside : j < length e = omega (arith, p, limits.many) in
        let was : moment_at e j ≡ U = was_open j (limit_at j inside) o in
        next_left market (c * U) (c * u) (map (λ x. c * x) e) (λ j. c * slice_index rests j) (λ j. slice_index speeds j) scaled (c * u + s) e' low high many
        (λ i q. limit_at i (inside_map q)) j (slice_index rests' j) (omega (arith, inside, length-map e (λ x. c * x))) o
        (omega (arith, speed_is j, (limits.each j inside).left was))
      where
        was_open : (j : ℕ) → At j → moment_at e' j ≡ c * U → moment_at e j ≡ U
        was_open j (early p q) k = absurd (omega (arith, p, q, k, high))
        was_open j (filled o f q) k = eq_of_mul-eq-mul_left c factor_above (moment_at e j) U (sym (moments_scaled c e j) ∙ o)
        was_open j (still o f q) k = eq_of_mul-eq-mul_left c factor_above (moment_at e j) U (sym (moments_scaled c e j) ∙ o)

    -- the limit whose moment it is is full
    pub step_full : moment_at e' next.limit ≡ c * u + s
    step_full =
        let a = limits.each next.limit next.known in
        a.now next.is_open (let f = a.left next.is_open in omega (arith, f, full))

    -- what divides the new unit and all new numbers is 1
    module _ (f : ℕ) (p : f ∣ c * U) (q : (j : ℕ) → j < length e' → f ∣ moment_at e' j) where
      abbrev part : ℕ
      part = c * U / f

      whole : f * part ≡ c * U
      whole = mul-div_cancel' f p

      end_positive : 0 < c * U
      end_positive = omega (arith, new_above, one)

      part_positive : 0 < part
      part_positive = factor_positive f part (c * U) whole end_positive

      f_positive : 0 < f
      f_positive = factor_positive part f (c * U) (mul_comm part f ∙ whole) end_positive

      -- f divides the old numbers over the new unit
      old_divides : (j : ℕ) → j < length e → f ∣ c * moment_at e j
      old_divides j inside = elim (cases_order (moment_at e j) U) [
        | inl same ↦ subst (λ n. f ∣ c * n) (sym same) p
        | inr (inl less) ↦ subst (λ n. f ∣ n) ((limits.each j inside).full (λ o. omega arith)) (q j (omega (arith, inside, limits.many)))
        | inr (inr more) ↦ subst (λ n. f ∣ n) ((limits.each j inside).full (λ o. omega arith)) (q j (omega (arith, inside, limits.many)))
      ]

      in_unit : U ∣ part
      in_unit = divides (multiple_of_lowest part U x (moment_at e) part_positive unit_positive proportion (λ g a b. lowest.lowest g a (λ j _. b j)))
        where
          x : ℕ → ℕ
          x j = c * moment_at e j / f

          divided : (j : ℕ) → f ∣ c * moment_at e j
          divided j = elim (cases_lt j (length e)) [
            | inl inside ↦ old_divides j inside
            | inr past ↦ subst (λ n. f ∣ c * n) (sym (get_or_past e j 0 past)) (subst (λ n. f ∣ n) (let z : 0 ≡ c * 0 = omega arith in z) (dvd-zero f))
          ]

          proportion : (j : ℕ) → x j * U ≡ moment_at e j * part
          proportion j =
              let is : f * x j ≡ c * moment_at e j = mul-div_cancel' f (divided j) in
              eq_of_mul-eq-mul_left f f_positive (x j * U) (moment_at e j * part)
              (let left : f * (x j * U) ≡ c * moment_at e j * U = sym (mul_assoc f (x j) U) ∙ ap (λ n. n * U) is in
              let right : f * (moment_at e j * part) ≡ moment_at e j * (c * U) = mul_left_comm f (moment_at e j) part ∙ ap (λ n. moment_at e j * n) whole in
              omega (arith, left, right))

          divides : (t : ℕ) × (part ≡ t * U) × ((j : ℕ) → x j ≡ t * moment_at e j) → U ∣ part
          divides (t, is, _) = subst (λ n. U ∣ n) (sym is) (dvd-mul_left U t)

      in_denominator : denominator m ∣ part
      in_denominator = divides (multiple_of_lowest part (denominator m) (λ _. y) (λ _. numerator m) part_positive m.positive (λ _. proportion) (λ g a b. m.lowest g (b 0) a))
        where
          moment_divides : f ∣ c * u + s
          moment_divides = subst (λ n. f ∣ n) step_full (q next.limit (let inside = next.known in omega (arith, inside, limits.many)))

          y : ℕ
          y = (c * u + s) / f

          proportion : y * denominator m ≡ numerator m * part
          proportion =
              let is : f * y ≡ c * u + s = mul-div_cancel' f moment_divides in
              eq_of_mul-eq-mul_left f f_positive (y * denominator m) (numerator m * part)
              (let left : f * (y * denominator m) ≡ numerator m * w * denominator m = sym (mul_assoc f y (denominator m)) ∙ ap (λ n. n * denominator m) (is ∙ sum) in
              let right : f * (numerator m * part) ≡ numerator m * (c * U) = mul_left_comm f (numerator m) part ∙ ap (λ n. numerator m * n) whole in
              let end : numerator m * (w * denominator m) ≡ numerator m * (c * U) = ap (λ n. numerator m * n) (two ∙ sym one) in
              left ∙ mul_assoc (numerator m) w (denominator m) ∙ end ∙ sym right)

          divides : (t : ℕ) × (part ≡ t * denominator m) × ((j : ℕ) → y ≡ t * numerator m) → denominator m ∣ part
          divides (t, is, _) = subst (λ n. denominator m ∣ n) (sym is) (dvd-mul_left (denominator m) t)

      small : f ≤ 1
      small =
          let all : U' ≤ part = le_of_dvd part_positive (least.least part in_unit in_denominator) in
          at_most_one f part (omega (arith, all, one, whole)) part_positive
        where
          at_most_one : (f n : ℕ) → f * n ≤ n → 0 < n → f ≤ 1
          at_most_one zero n a b = omega arith
          at_most_one (suc zero) n a b = omega arith
          at_most_one (suc (suc f)) n a b = absurd (grind arith)

    -- the table is in lowest terms
    pub step_lowest : IsLowestTerms (c * U) e'
    step_lowest = record { lowest = λ f p q. small f p q }

    -- it is a table up to the moment
    pub step_partial : IsPartialTable market (c * U) (c * u + s) e'
    step_partial = right_partial market (c * U) (c * u + s) e' step_right next.limit (let inside = next.known in omega (arith, inside, limits.many)) step_full

    -- and the first that is too fine, where its denominator is
    pub step_too_fine : U ≤ 2 ^ 116 → 2 ^ 116 < c * U → IsFirstTooFine market (c * U) (c * u + s) e'
    step_too_fine fine above = record {
      partial = step_partial;
      lowest = step_lowest;
      above = above;
      fits_before = (c, U, refl, fine, λ j p less. fits j (omega (arith, p, limits.many)) less);
    }
      where
        fits : (j : ℕ) → j < length e → moment_at e' j < c * u + s → c ∣ moment_at e' j
        fits j inside less = elim (cases_order (moment_at e j) U) [
          | inl same ↦ absurd (open_late j inside same less)
          | inr (inl below) ↦ subst (λ n. c ∣ n) (sym ((limits.each j inside).full (λ o. omega arith))) (dvd-mul_right c (moment_at e j))
          | inr (inr beyond) ↦ subst (λ n. c ∣ n) (sym ((limits.each j inside).full (λ o. omega arith))) (dvd-mul_right c (moment_at e j))
        ]
          where
            open_late : (j : ℕ) → j < length e → moment_at e j ≡ U → moment_at e' j < c * u + s → ⊥
            open_late j inside o less = elim (cases_lt 0 (slice_index rests' j)) [
              | inl p ↦ (let f = (limits.each j inside).later o p in omega (arith, f, less, high))
              | inr p ↦ (let f = (limits.each j inside).now o (omega arith) in omega (arith, f, less))
            ]
