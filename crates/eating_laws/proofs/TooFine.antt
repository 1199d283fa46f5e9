-- A first table that is too fine is excluded by an eating table within the limit, and there is one at most.
use Rattle.std.proofs.Common.{◌≡◌, ℕ, suc, zero, ◌+◌, ◌*◌, ◌<◌, ◌≤◌, List, length, map, cond, refl, ap, sym, ◌∙◌, subst, inl, inr, arith, mul_comm, mul_assoc, mul-le-mul_left}
use Rattle.std.specs.Prelude.{min, ◌⊎◌, ◌/◌, ◌^◌, nat_le}
use Rattle.std.specs.Int.{◌∣◌}
use Rattle.std.proofs.Math.Nat.{mul-add, mul_left_comm, eq_of_mul-eq-mul_left, mul-div_cancel', one-dvd, one-mul, dvd-zero, mul-le-mul_right}
use Rattle.std.proofs.lemmas.Bool.{cases_lt, cases_order, le-leb, lt-leb}
use Rattle.std.proofs.lemmas.List.{get_or_past, ext_get_or}
use Rattle.definitions.specs.Values.{Market}
use Rattle.definitions.specs.Eating.{moment_at, IsEatingTable, IsLowestTerms, IsPartialTable, IsFirstTooFine}
use Rattle.frac128.specs.Measure.{IsLowest, multiple_of_lowest, same_lowest, factor_positive}
use Rattle.eating_laws.proofs.Full.{moments_scaled}
use Rattle.eating_laws.proofs.Right.{IsRightBelow, eating_right, partial_right, agree}
use Rattle.eating_laws.proofs.Fine.{scale_right, scale_eating, below_from_product}
use Rattle.eating_laws.proofs.Unique.{lowest_by_index}

-- two tables over D and D', each times the other's denominator, agree up to the moment n of the common denominator
pub record Agree (D D' n : ℕ) (e e' : List ℕ) : Type 0 where
  pub size : length e ≡ length e'
  pub cut : (j : ℕ) → min n (D' * moment_at e j) ≡ min n (D * moment_at e' j)

pub agree_scaled : (market : Market) (D D' n r r' : ℕ) (e e' : List ℕ) → length e ≡ length e' → IsRightBelow market (D' * D) r (map (λ x. D' * x) e)
    → IsRightBelow market (D * D') r' (map (λ x. D * x) e') → n ≤ r → n ≤ r' → Agree D D' n e e'
agree_scaled market D D' n r r' e e' same h h' k k' = record {
  size = same;
  cut = λ j. ap (λ x. min n x) (sym (moments_scaled D' e j)) ∙ agree market (D' * D) r r' (map (λ x. D' * x) e) (map (λ x. D * x) e') h other n k k' j ∙ ap (λ x. min n x) (moments_scaled D e' j);
}
  where
    other : IsRightBelow market (D' * D) r' (map (λ x. D * x) e')
    other = subst (λ d. IsRightBelow market d r' (map (λ x. D * x) e')) (mul_comm D D') h'

pub agree_turned : (D D' n : ℕ) (e e' : List ℕ) → Agree D D' n e e' → Agree D' D n e' e
agree_turned D D' n e e' h = record { size = sym h.size; cut = λ j. sym (h.cut j) }

-- a table up to m: its end is positive, m is before it, and a number after m is the end
pub record IsUpTo (D m : ℕ) (e : List ℕ) : Type 0 where
  pub positive : 0 < D
  pub before_end : m < D
  pub later : (j : ℕ) → m < moment_at e j → moment_at e j ≡ D

pub up_to : (market : Market) (D m : ℕ) (e : List ℕ) → IsPartialTable market D m e → IsUpTo D m e
up_to market D m e h = record {
  positive = (let k : m < D = h.before_end in omega arith);
  before_end = h.before_end;
  later = λ j k. elim (cases_lt j (length e)) [
    | inl inside ↦ pick (h.said j inside) k
    | inr past ↦ absurd (let none : moment_at e j ≡ 0 = get_or_past e j 0 past in omega arith)
  ];
}
  where
    pick : {x : ℕ} → (x ≤ m) ⊎ (x ≡ D) → m < x → x ≡ D
    pick (inl k) l = absurd (omega arith)
    pick (inr k) l = k

-- of a moment up to m of the first table the second has the same
known_same : (D D' m x y : ℕ) → x ≤ m → min (D' * m + 1) (D' * x) ≡ min (D' * m + 1) (D * y) → D' * x ≡ D * y
known_same D D' m x y h e = (let k : D' * x ≤ D' * m = mul-le-mul_left D' h in omega arith)

-- the denominator of a table up to m in lowest terms is no larger than the one that the moments up to m of the other table fit
pub follows : (D D' m f c : ℕ) (e e' : List ℕ) → IsUpTo D m e → IsLowest D (moment_at e) → Agree D D' (D' * m + 1) e e' → 0 < D' → f * c ≡ D'
    → ((j : ℕ) → D * moment_at e' j ≤ D' * m → f ∣ moment_at e' j) → D ≤ c
follows D D' m f c e e' h lowest same pos parts fits =
    at_least (multiple_of_lowest c D x (moment_at e) c_pos h.positive proportion lowest)
  where
    c_pos : 0 < c
    c_pos = factor_positive f c D' parts pos

    f_pos : 0 < f
    f_pos = factor_positive c f D' (mul_comm c f ∙ parts) pos

    x : ℕ → ℕ
    x j = cond (nat_le (moment_at e j) m) (moment_at e' j / f) c

    known : (u v : ℕ) → D' * u ≡ D * v → f ∣ v → v / f * D ≡ u * c
    known u v p d =
        let q = v / f in
        let whole : f * q ≡ v = mul-div_cancel' f d in
        let left : f * (q * D) ≡ v * D = sym (mul_assoc f q D) ∙ ap (λ n. n * D) whole in
        let right : f * (u * c) ≡ D' * u = mul_left_comm f u c ∙ ap (λ n. u * n) parts ∙ mul_comm u D' in
        eq_of_mul-eq-mul_left f f_pos (q * D) (u * c) (left ∙ mul_comm v D ∙ sym p ∙ sym right)

    proportion : (j : ℕ) → x j * D ≡ moment_at e j * c
    proportion j = elim (cases_lt m (moment_at e j)) [
      | inl less ↦
          ap (λ b. cond b (moment_at e' j / f) c * D) (lt-leb (moment_at e j) m less) ∙ mul_comm c D ∙ ap (λ n. n * c) (sym (h.later j less))
      | inr more ↦
          let equal : D' * moment_at e j ≡ D * moment_at e' j = known_same D D' m (moment_at e j) (moment_at e' j) more (same.cut j) in
          let early : D' * moment_at e j ≤ D' * m = mul-le-mul_left D' more in
          ap (λ b. cond b (moment_at e' j / f) c * D) (le-leb (moment_at e j) m more) ∙ known (moment_at e j) (moment_at e' j) equal (fits j (omega arith))
    ]

    at_least : (k : ℕ) × (c ≡ k * D) × ((j : ℕ) → x j ≡ k * moment_at e j) → D ≤ c
    at_least (zero, whole, parts) = (let p : 0 < c = c_pos in absurd (omega (arith, p, whole)))
    at_least (suc k, whole, parts) = (let more : 1 * D ≤ suc k * D = mul-le-mul_right D (let one : 1 ≤ suc k = omega arith in one) in omega arith)

within_end : (D D' m : ℕ) → m < D → D' * m + 1 ≤ D * D' ⊎ (D' ≡ 0)
within_end D zero m h = inr refl
within_end D (suc d) m h =
    let more : suc d * (m + 1) ≤ suc d * D = mul-le-mul_left (suc d) (let k : m + 1 ≤ D = omega arith in k) in
    inl (omega (arith, more, mul-add (suc d) m 1, mul_comm (suc d) D))

-- an eating table has a denominator at least that of a table up to a moment in lowest terms
pub no_larger : (market : Market) (D D' m : ℕ) (e e' : List ℕ) → IsPartialTable market D m e → IsLowestTerms D e → IsEatingTable market D' e' → D ≤ D'
no_larger market D D' m e e' h lowest table =
    let known = up_to market D m e h in
    let first = scale_right market D' D m e table.positive (partial_right market D m e h) in
    let second = eating_right market (D * D') (map (λ x. D * x) e') (scale_eating market D D' e' known.positive table) in
    let same = agree_scaled market D D' (D' * m + 1) (D' * m + 1) (D * D') e e' (h.size ∙ sym table.size) first second (omega arith) (reach (within_end D D' m h.before_end)) in
    follows D D' m 1 D' e e' known (lowest_by_index D e lowest) same table.positive (one-mul D') (λ j k. one-dvd (moment_at e' j))
  where
    reach : (D' * m + 1 ≤ D * D') ⊎ (D' ≡ 0) → D' * m + 1 ≤ D * D'
    reach (inl k) = k
    reach (inr k) = (let p = table.positive in absurd (omega arith))

-- a table up to m in lowest terms whose denominator is above a limit, where the moments before m fit one within it
pub record IsTooFine (market : Market) (top D m : ℕ) (e : List ℕ) : Type 0 where
  pub partial : IsPartialTable market D m e
  pub lowest : IsLowestTerms D e
  pub above : top < D
  pub part : ℕ
  pub small : ℕ
  pub parts : part * small ≡ D
  pub within : small ≤ top
  pub fits : (j : ℕ) → moment_at e j < m → part ∣ moment_at e j

pub first_too_fine : (market : Market) (D m : ℕ) (e : List ℕ) → IsFirstTooFine market D m e → IsTooFine market (2 ^ 116) D m e
first_too_fine market D m e h = record {
  partial = h.partial;
  lowest = h.lowest;
  above = h.above;
  part = h.fits_before.0;
  small = h.fits_before.1;
  parts = h.fits_before.2;
  within = h.fits_before.3;
  fits = λ j k. elim (cases_lt j (length e)) [
    | inl inside ↦ h.fits_before.4 j inside k
    | inr past ↦ subst (λ n. h.fits_before.0 ∣ n) (sym (get_or_past e j 0 past)) (dvd-zero h.fits_before.0)
  ];
}

-- of two too fine tables none comes before the other
none_before : (market : Market) (top D D' m m' : ℕ) (e e' : List ℕ) → IsTooFine market top D m e → IsTooFine market top D' m' e' → D' * m < D * m' → ⊥
none_before market top D D' m m' e e' h h' less =
    let known = up_to market D m e h.partial in
    let known' = up_to market D' m' e' h'.partial in
    let first = scale_right market D' D m e known'.positive (partial_right market D m e h.partial) in
    let second = scale_right market D D' m' e' known.positive (partial_right market D' m' e' h'.partial) in
    let same = agree_scaled market D D' (D' * m + 1) (D' * m + 1) (D * m' + 1) e e' (h.partial.size ∙ sym h'.partial.size) first second (omega arith) (omega arith) in
    let least : D ≤ h'.small =
    follows D D' m h'.part h'.small e e' known (lowest_by_index D e h.lowest) same known'.positive h'.parts
    (λ j k. h'.fits j (below_from_product D (moment_at e' j) m' 0 (omega arith))) in
    let above : top < D = h.above in
    let within : h'.small ≤ top = h'.within in
    omega arith

-- two too fine tables at one moment are in proportion
at_one_moment : (D D' m m' : ℕ) (e e' : List ℕ) → IsUpTo D m e → IsUpTo D' m' e' → D' * m ≡ D * m' → Agree D D' (D' * m + 1) e e' → (j : ℕ) → moment_at e j * D' ≡ moment_at e' j * D
at_one_moment D D' m m' e e' h h' one same j = elim (cases_lt m (moment_at e j)) [
  | inl less ↦
      let far : D' * (m + 1) ≤ D' * moment_at e j = mul-le-mul_left D' (let k : m + 1 ≤ moment_at e j = omega arith in k) in
      let cut = same.cut j in
      let beyond : D * m' < D * moment_at e' j = (let p = h'.positive in omega (arith, far, mul-add D' m 1, cut)) in
      let less' : m' < moment_at e' j = below_from_product D m' (moment_at e' j) 0 (omega arith) in
      ap (λ n. n * D') (h.later j less) ∙ mul_comm D D' ∙ ap (λ n. n * D) (sym (h'.later j less'))
  | inr more ↦
      let equal : D' * moment_at e j ≡ D * moment_at e' j = known_same D D' m (moment_at e j) (moment_at e' j) more (same.cut j) in
      mul_comm (moment_at e j) D' ∙ equal ∙ mul_comm D (moment_at e' j)
]

-- there is one too fine table at most
pub one_too_fine : (market : Market) (top D D' m m' : ℕ) (e e' : List ℕ) → IsTooFine market top D m e → IsTooFine market top D' m' e' → (D ≡ D') × (m ≡ m') × (e ≡ e')
one_too_fine market top D D' m m' e e' h h' = elim (cases_order (D' * m) (D * m')) [
  | inl one ↦
      let known = up_to market D m e h.partial in
      let known' = up_to market D' m' e' h'.partial in
      let first = scale_right market D' D m e known'.positive (partial_right market D m e h.partial) in
      let second = scale_right market D D' m' e' known.positive (partial_right market D' m' e' h'.partial) in
      let same = agree_scaled market D D' (D' * m + 1) (D' * m + 1) (D * m' + 1) e e' (h.partial.size ∙ sym h'.partial.size) first second (omega arith) (omega arith) in
      let equal = same_lowest D D' (moment_at e) (moment_at e') known.positive known'.positive (at_one_moment D D' m m' e e' known known' one same) (lowest_by_index D e h.lowest) (lowest_by_index D' e' h'.lowest) in
      let moment : m ≡ m' = eq_of_mul-eq-mul_left D known.positive m m' (ap (λ n. n * m) equal.0 ∙ one) in
      (equal.0, moment, ext_get_or 0 e e' same.size (λ j l. equal.1 j))
  | inr (inl less) ↦ absurd (none_before market top D D' m m' e e' h h' less)
  | inr (inr more) ↦ absurd (none_before market top D' D m' m e' e h' h more)
]

-- where an eating table is within the limit, no table is too fine
pub none_too_fine : (market : Market) (top D D' m : ℕ) (e e' : List ℕ) → IsEatingTable market D e → D ≤ top → IsTooFine market top D' m e' → ⊥
none_too_fine market top D D' m e e' table within h =
    let least : D' ≤ D = no_larger market D' D m e' e h.partial h.lowest table in
    let above : top < D' = h.above in
    omega arith

-- the same at the limit 2^116
pub not_too_fine : (market : Market) (D D' m : ℕ) (e e' : List ℕ) → IsEatingTable market D e → D ≤ 2 ^ 116 → IsFirstTooFine market D' m e' → ⊥
not_too_fine market D D' m e e' table within h = none_too_fine market (2 ^ 116) D D' m e e' table within (first_too_fine market D' m e' h)

pub one_first : (market : Market) (D D' m m' : ℕ) (e e' : List ℕ) → IsFirstTooFine market D m e → IsFirstTooFine market D' m' e' → (D ≡ D') × (m ≡ m') × (e ≡ e')
one_first market D D' m m' e e' h h' = one_too_fine market (2 ^ 116) D D' m m' e e' (first_too_fine market D m e h) (first_too_fine market D' m' e' h')
