-- The first moment, the step to the next, and the step that is too fine.
use Rattle.std.proofs.Common.{◌≡◌, ℕ, ◌+◌, ◌-◌, ◌*◌, ◌<◌, ◌≤◌, List, cond, length, map, ap, sym, ◌∙◌, subst, arith, inl, inr, mul_comm, mul-le-mul_left}
use Rattle.std.specs.Prelude.{slice_index, ◌/◌, ◌==◌, ◌⊎◌, ◌^◌}
use Rattle.std.specs.List.{range_with_len}
use Rattle.std.proofs.Math.Nat.{mul-div_cancel', le_of_dvd}
use Rattle.std.proofs.lemmas.Bool.{cases_lt, eq-eqb, ne_eqb}
use Rattle.std.proofs.lemmas.List.{length-map, get_or-map}
use Rattle.std.proofs.lemmas.List.FromFn.{length-range_with_len, get_or-range_with_len}
use Rattle.definitions.specs.Values.{Market}
use Rattle.definitions.specs.Eating.{eaten_by, limit_cells, limit_ceiling, IsLowestTerms, IsFirstTooFine}
use Rattle.eating_laws.proofs.Sums.{eaten_zero}
use Rattle.eating_laws.proofs.Right.{IsRightBelow}
use Rattle.frac128.specs.Lcm.{IsBeyond}
use Rattle.frac128.specs.Fraction.{numerator, denominator}
use Rattle.frac128.specs.declared.fractions.Fraction.{Fraction}
use Rattle.eating.specs.Steps.{IsReady, IsAdvanced, AreAdvanced, IsEarliest}
use Rattle.eating.specs.Answers.{IsTooFineIn}
use Rattle.eating.proofs.Going.{new_within, slow, moment_after}
use Rattle.eating.proofs.Stepping.{step_too_fine}

-- at moment 0 the limits with ceiling 0 are full, and nothing is eaten
module _ (market : Market) (e r v e' r' : List ℕ) (size : length e ≡ length market.limits) (unit : (j : ℕ) → j < length e → slice_index e j ≡ 1)
    (ceilings : (j : ℕ) → j < length market.limits → slice_index r j ≡ limit_ceiling market j) (limits : AreAdvanced 1 1 0 0 e r v e' r') where
  first_left : (j : ℕ) → j < length e → slice_index r' j ≡ limit_ceiling market j
  first_left j l = (let f = (limits.each j l).left (unit j l) in omega (arith, f, ceilings j (omega (arith, l, size))))

  first_cases : (j : ℕ) → j < length e → ((slice_index e' j ≡ 0) × (limit_ceiling market j ≡ 0)) ⊎ ((slice_index e' j ≡ 1) × (0 < limit_ceiling market j))
  first_cases j l = elim (cases_lt 0 (slice_index r' j)) [
    | inl some ↦ inr (let f = (limits.each j l).later (unit j l) some in omega (arith, f), omega (arith, some, first_left j l))
    | inr none ↦ inl ((limits.each j l).now (unit j l) (omega arith), omega (arith, none, first_left j l))
  ]

  pub first_right : IsRightBelow market 1 (0 + 1) e'
  first_right = record {
    positive = omega arith;
    reach = omega arith;
    size = limits.many ∙ size;
    said = λ j l. said (first_cases j (omega (arith, l, limits.many)));
    right = λ t below. record {
      later = λ j l k. later t below j (first_cases j (omega (arith, l, limits.many))) k;
      now = λ j l k. now t below j (first_cases j (omega (arith, l, limits.many))) k;
    };
  }
    where
      said : {x c : ℕ} → ((x ≡ 0) × (c ≡ 0)) ⊎ ((x ≡ 1) × (0 < c)) → (x < 0 + 1) ⊎ (x ≡ 1)
      said (inl (p, q)) = inl (omega arith)
      said (inr (p, q)) = inr p

      none_yet : (t j : ℕ) → t < 0 + 1 → eaten_by market 1 e' (limit_cells market j) t ≡ 0
      none_yet t j below = ap (λ n. eaten_by market 1 e' (limit_cells market j) n) (let z : t ≡ 0 = omega arith in z) ∙ eaten_zero market 1 e' (limit_cells market j)

      later : (t : ℕ) → t < 0 + 1 → (j : ℕ) → ((slice_index e' j ≡ 0) × (limit_ceiling market j ≡ 0)) ⊎ ((slice_index e' j ≡ 1) × (0 < limit_ceiling market j)) → t < slice_index e' j
          → eaten_by market 1 e' (limit_cells market j) t < limit_ceiling market j * 1
      later t below j (inl (p, q)) k = absurd (omega arith)
      later t below j (inr (p, q)) k = omega (arith, none_yet t j below)

      now : (t : ℕ) → t < 0 + 1 → (j : ℕ) → ((slice_index e' j ≡ 0) × (limit_ceiling market j ≡ 0)) ⊎ ((slice_index e' j ≡ 1) × (0 < limit_ceiling market j)) → slice_index e' j ≡ t
          → eaten_by market 1 e' (limit_cells market j) t ≡ limit_ceiling market j * 1
      now t below j (inl (p, q)) k = omega (arith, none_yet t j below)
      now t below j (inr (p, q)) k = absurd (omega arith)

  pub first_rests : (j : ℕ) → j < length e' → slice_index e' j ≡ 1 → slice_index r' j + eaten_by market 1 e' (limit_cells market j) 0 ≡ limit_ceiling market j * 1
  first_rests j l o = omega (arith, first_left j (omega (arith, l, limits.many)), eaten_zero market 1 e' (limit_cells market j))

-- over 1 each table is in lowest terms
pub first_lowest : (e : List ℕ) → IsLowestTerms 1 e
first_lowest e = record { lowest = λ f p q. le_of_dvd (let one : 0 < 1 = omega arith in one) p }

-- the lists that a step makes
module _ (U f s at : ℕ) (e r v : List ℕ) where
  abbrev left_of : ℕ → ℕ
  left_of j = f * slice_index r j - slice_index v j * s

  abbrev moment_of : ℕ → ℕ
  moment_of j = cond (slice_index e j == U) (cond (left_of j == 0) at (f * U)) (f * slice_index e j)

  pub made_moments : List ℕ
  made_moments = map moment_of (range_with_len 0 (length e))

  pub made_rests : List ℕ
  made_rests = map left_of (range_with_len 0 (length e))

  pub made_advanced : ((j : ℕ) → j < length e → slice_index e j ≡ U → slice_index v j * s ≤ f * slice_index r j) → AreAdvanced U f s at e r v made_moments made_rests
  unfolding made_moments made_rests
  made_advanced slow = record {
    many = length-map (range_with_len 0 (length e)) moment_of ∙ length-range_with_len 0 (length e);
    many_rests = length-map (range_with_len 0 (length e)) left_of ∙ length-range_with_len 0 (length e);
    each = λ j l. subst (λ x. IsAdvanced U f s at (slice_index e j) (slice_index r j) (slice_index v j) x (slice_index (map left_of (range_with_len 0 (length e))) j)) (sym (read moment_of j l))
        (subst (λ y. IsAdvanced U f s at (slice_index e j) (slice_index r j) (slice_index v j) (moment_of j) y) (sym (read left_of j l)) (record {
          full = λ apart. ap (λ b. cond b (cond (left_of j == 0) at (f * U)) (f * slice_index e j)) (ne_eqb (slice_index e j) U apart);
          left = λ o. (let le = slow j l o in omega arith);
          now = λ o none. ap (λ b. cond b (cond (left_of j == 0) at (f * U)) (f * slice_index e j)) (eq-eqb (slice_index e j) U o) ∙ ap (λ b. cond b at (f * U)) (eq-eqb (left_of j) 0 none);
          later = λ o some. ap (λ b. cond b (cond (left_of j == 0) at (f * U)) (f * slice_index e j)) (eq-eqb (slice_index e j) U o) ∙ ap (λ b. cond b at (f * U)) (ne_eqb (left_of j) 0 (λ z. omega arith));
        }));
  }
    where
      read : (g : ℕ → ℕ) (j : ℕ) → j < length e → slice_index (map g (range_with_len 0 (length e))) j ≡ g j
      read g j l =
          get_or-map g (range_with_len 0 (length e)) j 0 0 (omega (arith, l, length-range_with_len 0 (length e)))
          ∙ ap g (get_or-range_with_len 0 (length e) j 0 l ∙ (let z : 0 + j ≡ j = omega arith in z))

-- where the least common multiple is above the limit, the table up to the moment is the first that is too fine
pub beyond_too_fine : (market : Market) (U u : ℕ) (e r v : List ℕ) → IsReady market U u e (λ j. slice_index r j) (λ j. slice_index v j) → IsLowestTerms U e → U ≤ 2 ^ 116 → ((j : ℕ) → slice_index v j ≤ 1000)
    → (m : Fraction) → IsEarliest U u (length e) e r v m → (lcm : ℕ) → IsBeyond U (denominator m) (2 ^ 116) lcm → IsTooFineIn market lcm
beyond_too_fine market U u e r v ready lowest fine speeds m next lcm beyond =
    let U' = beyond.multiple in
    let least = beyond.least in
    let positive : 0 < U = (let p : 1 ≤ U = ready.right.positive in omega arith) in
    let c = U' / U in
    let w = U' / denominator m in
    let one : c * U ≡ U' = mul_comm c U ∙ mul-div_cancel' U least.first in
    let two : w * denominator m ≡ U' = mul_comm w (denominator m) ∙ mul-div_cancel' (denominator m) least.second in
    let s = numerator m * w - c * u in
    let after : c * u ≤ numerator m * w = moment_after U u e r v positive m next U' least c w one two in
    let sum : c * u + s ≡ numerator m * w = omega arith in
    let limits = made_advanced U c s (c * u + s) e r v (slow U u e r v positive m next U' least c w one two s sum) in
    let above : 2 ^ 116 < c * U = (let a = beyond.above in omega (arith, a, one)) in
    let first = step_too_fine market U u e r v ready lowest m next U' least c w s one two sum (made_moments U c s (c * u + s) e r v) (made_rests U c s (c * u + s) e r v) limits fine above in
    let within : U' ≤ U * slice_index v next.limit = new_within U u e r v positive m next U' least in
    let many : U * slice_index v next.limit ≤ U * 1000 = mul-le-mul_left U (speeds next.limit) in
    let small : U' < 2 ^ 126 = omega arith in
    let same : c * U ≡ lcm = (let held = beyond.held in omega arith) in
    record {
      moment = c * u + s;
      table = made_moments U c s (c * u + s) e r v;
      first = subst (λ D. IsFirstTooFine market D (c * u + s) (made_moments U c s (c * u + s) e r v)) same first;
      below = omega (arith, same, one, small);
    }
