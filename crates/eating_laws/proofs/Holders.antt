-- The moment from which a cell is full, as the least number over a list of the limits that hold the cell.
use Rattle.std.proofs.Common.{◌≡◌, ℕ, suc, ◌<◌, ◌≤◌, List, [], ◌∷◌, Bool, true, false, cond, length, get_or, refl, ap, ◌∙◌, arith, inl, inr}
use Rattle.std.specs.Prelude.{min, All, count_by, ◌==◌, if◌then◌else◌}
use Rattle.std.proofs.lemmas.Bool.{cases_Bool, eqb-true, eq-eqb}
use Rattle.std.proofs.lemmas.List.Sums.{sum_by-cons, get_or-le-sum_by}
use Rattle.definitions.specs.Sets.{cell_of, holds}
use Rattle.definitions.specs.Values.{Market}
use Rattle.definitions.specs.Eating.{full_at, moment_at, limit_cells}
use Rattle.eating_laws.proofs.Full.{full_le, full_below, full_from}

-- the indexes of the limits that hold the cell, each once
pub record IsHolders (market : Market) (i a : ℕ) (holders : List ℕ) : Type 0 where
  pub inside : All (λ h. h < length market.limits) holders
  pub once : (j : ℕ) → j < length market.limits → count_by (λ h. h == j) holders ≡ (if holds (limit_cells market j) (cell_of i a) then 1 else 0)

bit_of : (b : Bool) → 0 < cond {A = ℕ} b 1 0 → b ≡ true
bit_of true k = refl
bit_of false k = absurd (omega arith)

-- each of them holds the cell
pub holder_holds : (market : Market) (holders : List ℕ) (i a : ℕ) → IsHolders market i a holders → (k : ℕ) → k < length holders
    → holds (limit_cells market (get_or holders k 0)) (cell_of i a) ≡ true
holder_holds market holders i a h k l =
    let j = get_or holders k 0 in
    let self = ap {B = ℕ} (λ b. cond b 1 0) (eq-eqb j j refl) in
    let there : cond {A = ℕ} (j == j) 1 0 ≤ count_by (λ x. x == j) holders = get_or-le-sum_by (λ x. cond (x == j) 1 0) holders k 0 l in
    bit_of (holds (limit_cells market j) (cell_of i a)) (omega (arith, self, there, h.once j (h.inside k 0 l)))

-- the least of D and the numbers at these indexes
unfoldable pub least_of : ℕ → List ℕ → List ℕ → ℕ
least_of D e [] = D
least_of D e (h ∷ holders) = min (moment_at e h) (least_of D e holders)

pub least_le : (D : ℕ) (e holders : List ℕ) → least_of D e holders ≤ D
unfolding least_of
least_le D e [] = omega arith
least_le D e (h ∷ holders) = omega (arith, least_le D e holders)

least_below : (D : ℕ) (e holders : List ℕ) (j : ℕ) → 0 < count_by (λ h. h == j) holders → least_of D e holders ≤ moment_at e j
unfolding least_of
least_below D e [] j k = absurd (omega arith)
least_below D e (h ∷ holders) j k = elim (cases_Bool (h == j)) [
  | inl here ↦ (let same : h ≡ j = eqb-true h j here in omega (arith, ap (moment_at e) same))
  | inr other ↦
      let none = ap {B = ℕ} (λ b. cond b 1 0) other in
      omega (arith, least_below D e holders j (omega (arith, k, none, sum_by-cons (λ x. cond (x == j) 1 0) h holders)))
]

least_from : (D n : ℕ) (e holders : List ℕ) → n ≤ D → ((k : ℕ) → k < length holders → n ≤ moment_at e (get_or holders k 0)) → n ≤ least_of D e holders
unfolding least_of
least_from D n e [] d h = d
least_from D n e (x ∷ holders) d h = omega (arith, h 0 (omega arith), least_from D n e holders d (λ k l. h (suc k) (omega arith)))

-- the least over the holders of a cell is the moment from which it is full
pub full_holders : (market : Market) (D : ℕ) (e holders : List ℕ) (i a : ℕ) → length e ≡ length market.limits → IsHolders market i a holders
    → least_of D e holders ≡ full_at D market.limits e i a
full_holders market D e holders i a size h =
    let up : least_of D e holders ≤ full_at D market.limits e i a =
    full_from D market.limits e i a (least_of D e holders) (least_le D e holders)
    (λ j l held. least_below D e holders j (let one = h.once j (omega arith) ∙ ap {B = ℕ} (λ b. cond b 1 0) held in omega (arith, one))) in
    let down : full_at D market.limits e i a ≤ least_of D e holders =
    least_from D (full_at D market.limits e i a) e holders (full_le D market.limits e i a)
    (λ k l. full_below D market.limits e i a (get_or holders k 0) (let w = h.inside k 0 l in omega (arith, w, size)) (holder_holds market holders i a h k l)) in
    omega arith
