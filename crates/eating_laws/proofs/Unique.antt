-- A market has one eating table.
use Rattle.std.proofs.Common.{◌≡◌, ℕ, ◌*◌, ◌≤◌, List, length, map, ap, sym, ◌∙◌, subst, inl, inr, arith, mul_comm, mul-le-mul_left}
use Rattle.std.specs.Prelude.{min}
use Rattle.std.proofs.lemmas.Bool.{cases_lt}
use Rattle.std.proofs.lemmas.List.{get_or_past, ext_get_or}
use Rattle.definitions.specs.Values.{Market}
use Rattle.definitions.specs.Eating.{moment_at, IsEatingTable, IsLowestTerms}
use Rattle.frac128.specs.Measure.{IsLowest, same_lowest}
use Rattle.eating_laws.proofs.Full.{moments_scaled}
use Rattle.eating_laws.proofs.Right.{eating_right, agree}
use Rattle.eating_laws.proofs.Fine.{scale_eating}

-- the numbers of two eating tables are in proportion
pub proportional : (market : Market) (D D' : ℕ) (e e' : List ℕ) → IsEatingTable market D e → IsEatingTable market D' e' → (j : ℕ) → moment_at e j * D' ≡ moment_at e' j * D
proportional market D D' e e' h h' j = elim (cases_lt j (length e)) [
  | inl inside ↦
      let end : D * D' ≡ D' * D = mul_comm D D' in
      let first = scale_eating market D' D e h'.positive h in
      let second : IsEatingTable market (D' * D) (map (λ x. D * x) e') = subst (λ n. IsEatingTable market n (map (λ x. D * x) e')) end (scale_eating market D D' e' h.positive h') in
      let cut : min (D' * D) (moment_at (map (λ x. D' * x) e) j) ≡ min (D' * D) (moment_at (map (λ x. D * x) e') j) =
      agree market (D' * D) (D' * D) (D' * D) (map (λ x. D' * x) e) (map (λ x. D * x) e') (eating_right market (D' * D) (map (λ x. D' * x) e) first) (eating_right market (D' * D) (map (λ x. D * x) e') second)
      (D' * D) (omega arith) (omega arith) j in
      let within : D' * moment_at e j ≤ D' * D = mul-le-mul_left D' (h.within j inside) in
      let within' : D * moment_at e' j ≤ D * D' = mul-le-mul_left D (h'.within j (omega (arith, h.size, h'.size))) in
      omega (arith, cut, moments_scaled D' e j, moments_scaled D e' j, within, within', end, mul_comm (moment_at e j) D', mul_comm (moment_at e' j) D)
  | inr past ↦
      let none : moment_at e j ≡ 0 = get_or_past e j 0 past in
      let none' : moment_at e' j ≡ 0 = get_or_past e' j 0 (omega (arith, h.size, h'.size)) in
      ap (λ x. x * D') none ∙ (let zero : 0 * D' ≡ 0 * D = omega arith in zero) ∙ sym (ap (λ x. x * D) none')
]

-- lowest terms of a table as of numbers by index
pub lowest_by_index : (D : ℕ) (e : List ℕ) → IsLowestTerms D e → IsLowest D (moment_at e)
lowest_by_index D e h f p q = h.lowest f p (λ j l. q j)

-- in lowest terms the two are equal
pub same_table : (market : Market) (D D' : ℕ) (e e' : List ℕ) → IsEatingTable market D e → IsEatingTable market D' e' → IsLowestTerms D e → IsLowestTerms D' e'
    → (D ≡ D') × (e ≡ e')
same_table market D D' e e' h h' low low' =
    let same = same_lowest D D' (moment_at e) (moment_at e') h.positive h'.positive (proportional market D D' e e' h h') (lowest_by_index D e low) (lowest_by_index D' e' low') in
    (same.0, ext_get_or 0 e e' (h.size ∙ sym h'.size) (λ j l. same.1 j))
