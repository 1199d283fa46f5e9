-- The moments of a table before the end, and how many are below a moment.
use Rattle.std.proofs.Common.{◌≡◌, ℕ, suc, zero, ◌+◌, ◌<◌, ◌≤◌, List, [], ◌∷◌, length, Bool, true, false, cond, refl, ap, sym, ◌∙◌, subst, inl, inr, arith}
use Rattle.std.specs.Prelude.{◌⊎◌, nat_lt, nat_eq, count_by, filter}
use Rattle.std.specs.Set.{is_member, unique_keys}
use Rattle.std.proofs.lemmas.Bool.{cases_lt, cases_eq, lt-ltb, le-ltb, or_cases, or_left, or_right, eqb-true, eq-eqb}
use Rattle.std.proofs.lemmas.List.Sums.{sum_by-cons}
use Rattle.definitions.specs.Eating.{moment_at}
use Rattle.definitions.specs.Certificate.{distinct_moments}

-- a number is in a table or is not
pub find_moment : (e : List ℕ) (t : ℕ) → ((j : ℕ) × (j < length e) × (moment_at e j ≡ t)) ⊎ ((j : ℕ) → j < length e → moment_at e j ≡ t → ⊥)
find_moment [] t = inr (λ j l k. absurd (omega arith))
find_moment (x ∷ e) t = elim (cases_eq x t) [
  | inl same ↦ inl (0, omega arith, same)
  | inr other ↦ later x e t other (find_moment e t)
]
  where
    later : (x : ℕ) (e : List ℕ) (t : ℕ) → (x ≡ t → ⊥) → ((j : ℕ) × (j < length e) × (moment_at e j ≡ t)) ⊎ ((j : ℕ) → j < length e → moment_at e j ≡ t → ⊥)
        → ((j : ℕ) × (j < length (x ∷ e)) × (moment_at (x ∷ e) j ≡ t)) ⊎ ((j : ℕ) → j < length (x ∷ e) → moment_at (x ∷ e) j ≡ t → ⊥)
    later x e t other (inl (j, l, k)) = inl (suc j, omega arith, k)
    later x e t other (inr none) = inr (absent x e t other none)
      where
        absent : (x : ℕ) (e : List ℕ) (t : ℕ) → (x ≡ t → ⊥) → ((j : ℕ) → j < length e → moment_at e j ≡ t → ⊥) → (j : ℕ) → j < length (x ∷ e) → moment_at (x ∷ e) j ≡ t → ⊥
        absent x e t other none zero l k = other k
        absent x e t other none (suc j) l k = none j (omega arith) k

-- how many of the moments are below t
abbrev pub below : List ℕ → ℕ → ℕ
below ms t = count_by (λ m. nat_lt m t) ms

bit_more : (x t : ℕ) → cond {A = ℕ} (nat_lt x t) 1 0 ≤ cond (nat_lt x (t + 1)) 1 0
bit_more x t = elim (cases_lt x t) [
  | inl less ↦
      let one = ap {B = ℕ} (λ b. cond b 1 0) (lt-ltb x t less) in
      let two = ap {B = ℕ} (λ b. cond b 1 0) (lt-ltb x (t + 1) (omega arith)) in
      omega (arith, one, two)
  | inr more ↦
      let one = ap {B = ℕ} (λ b. cond b 1 0) (le-ltb x t more) in
      omega (arith, one)
]

-- of a later moment no fewer
pub below_more : (ms : List ℕ) (t : ℕ) → below ms t ≤ below ms (t + 1)
below_more [] t = omega arith
below_more (x ∷ ms) t =
    omega (arith, bit_more x t, below_more ms t, sum_by-cons (λ m. cond (nat_lt m t) 1 0) x ms, sum_by-cons (λ m. cond (nat_lt m (t + 1)) 1 0) x ms)

-- and more where the moment between is one of them
pub below_rises : (ms : List ℕ) (t : ℕ) → is_member nat_eq ms t ≡ true → suc (below ms t) ≤ below ms (t + 1)
below_rises [] t h = absurd (none h)
  where
    none : false ≡ true → ⊥
    none h = cc
below_rises (x ∷ ms) t h = elim (or_cases (nat_eq t x) (is_member nat_eq ms t) h) [
  | inl here ↦
      let same : t ≡ x = eqb-true t x here in
      let one = ap {B = ℕ} (λ b. cond b 1 0) (le-ltb x t (omega arith)) in
      let two = ap {B = ℕ} (λ b. cond b 1 0) (lt-ltb x (t + 1) (omega arith)) in
      omega (arith, one, two, below_more ms t, sum_by-cons (λ m. cond (nat_lt m t) 1 0) x ms, sum_by-cons (λ m. cond (nat_lt m (t + 1)) 1 0) x ms)
  | inr there ↦
      omega (arith, bit_more x t, below_rises ms t there, sum_by-cons (λ m. cond (nat_lt m t) 1 0) x ms, sum_by-cons (λ m. cond (nat_lt m (t + 1)) 1 0) x ms)
]

member_of_keys : (xs : List ℕ) (x : ℕ) → is_member nat_eq xs x ≡ true → is_member nat_eq (unique_keys nat_eq xs) x ≡ true
member_of_keys [] x h = h
member_of_keys (y ∷ xs) x h = elim (or_cases (nat_eq x y) (is_member nat_eq xs x) h) [
  | inl here ↦ at (is_member nat_eq xs y) refl (eqb-true x y here) (λ m. member_of_keys xs x m)
  | inr there ↦ past (is_member nat_eq xs y) (member_of_keys xs x there)
]
  where
    at : (b : Bool) → is_member nat_eq xs y ≡ b → x ≡ y → (is_member nat_eq xs x ≡ true → is_member nat_eq (unique_keys nat_eq xs) x ≡ true) → is_member nat_eq (cond b (unique_keys nat_eq xs) (y ∷ unique_keys nat_eq xs)) x ≡ true
    at true e same further = further (subst (λ z. is_member nat_eq xs z ≡ true) (sym same) e)
    at false e same further = or_left (nat_eq x y) (is_member nat_eq (unique_keys nat_eq xs) x) (eq-eqb x y same)

    past : (b : Bool) → is_member nat_eq (unique_keys nat_eq xs) x ≡ true → is_member nat_eq (cond b (unique_keys nat_eq xs) (y ∷ unique_keys nat_eq xs)) x ≡ true
    past true k = k
    past false k = or_right (nat_eq x y) (is_member nat_eq (unique_keys nat_eq xs) x) k

member_of_early : (D : ℕ) (e : List ℕ) (j : ℕ) → j < length e → moment_at e j < D → is_member nat_eq (filter (λ m. nat_lt m D) e) (moment_at e j) ≡ true
member_of_early D [] j l k = absurd (omega arith)
member_of_early D (x ∷ e) zero l k =
    ap (λ b. is_member nat_eq (cond b (x ∷ filter (λ m. nat_lt m D) e) (filter (λ m. nat_lt m D) e)) x) (lt-ltb x D k) ∙ or_left (nat_eq x x) (is_member nat_eq (filter (λ m. nat_lt m D) e) x) (eq-eqb x x refl)
member_of_early D (x ∷ e) (suc j) l k = past (nat_lt x D) (member_of_early D e j (omega arith) k)
  where
    past : (b : Bool) → is_member nat_eq (filter (λ m. nat_lt m D) e) (moment_at e j) ≡ true
        → is_member nat_eq (cond b (x ∷ filter (λ m. nat_lt m D) e) (filter (λ m. nat_lt m D) e)) (moment_at e j) ≡ true
    past true k = or_right (nat_eq (moment_at e j) x) (is_member nat_eq (filter (λ m. nat_lt m D) e) (moment_at e j)) k
    past false k = k

-- the distinct moments before the end are all of them
pub moment_listed : (D : ℕ) (e : List ℕ) (j : ℕ) → j < length e → moment_at e j < D → is_member nat_eq (distinct_moments e D) (moment_at e j) ≡ true
moment_listed D e j l k = member_of_keys (filter (λ m. nat_lt m D) e) (moment_at e j) (member_of_early D e j l k)
