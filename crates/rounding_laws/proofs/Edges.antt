-- A piece is taken off, at one cell or set.
use Rattle.std.proofs.Common.{◌≡◌, ℕ, ◌+◌, ◌-◌, ◌*◌, ◌%◌, ◌<◌, ◌≤◌, ◌⊎◌, suc, zero, refl, arith, inl, inr, subst, sym, ap, ◌∙◌, Bool, true, false, not, cond}
use Rattle.std.specs.Prelude.{◌==◌}
use Rattle.std.proofs.lemmas.Nat.{mod-mul-add}
use Rattle.std.proofs.lemmas.Bool.{cases_lt, eqb-true, eq-eqb, ne_eqb}
use Rattle.definitions.specs.Rounding.{IsRounded, gap, is_fractional}
use Rattle.rounding_laws.proofs.Rounded.{placed, divided, up_cases, gap_of_rounded, rounded_of_gap}

still_same : (y y' d' w m : ℕ) → y' + w * m ≡ y → gap m y' d' < d' → gap m y (d' + w) < d' + w
still_same y y' d' w m e k = grind arith

still_more : (y y' d' w m : ℕ) → y' + w * m ≡ y → gap m y' d' ≤ d' → gap (m + 1) y' d' < d' → gap (m + 1) y (d' + w) < d' + w
still_more y y' d' w m e h k = grind arith

still_less : (y y' d' w m : ℕ) → y' + w * (m + 1) ≡ y → gap (m + 1) y' d' ≤ d' → gap m y' d' < d' → gap m y (d' + w) < d' + w
still_less y y' d' w m e h k = grind arith

far_above : (d m k : ℕ) (y : ℕ) → d * (m + suc (suc k)) < y + d → y ≤ d * m + d → ⊥
far_above d m k y h g = grind arith

far_below : (d m k : ℕ) (y : ℕ) → y < d * m + d → d * (m + suc (suc k)) ≤ y + d → ⊥
far_below d m k y h g = grind arith

-- what rounds what is left rounds what there was
pub still_rounds : (y y' d' w m m' : ℕ) → y' + w * m ≡ y → gap m y' d' ≤ d' → gap m' y' d' < d' → gap m' y (d' + w) < d' + w
still_rounds y y' d' w m m' e h k = elim (placed m' m) [
  | inl (inl q) ↦ (let P : ℕ → Type 0 = λ j. gap j y (d' + w) < d' + w in let Q : ℕ → Type 0 = λ j. gap j y' d' < d' in subst P (sym q) (still_same y y' d' w m e (subst Q q k)))
  | inl (inr q) ↦ (let P : ℕ → Type 0 = λ j. gap j y (d' + w) < d' + w in let Q : ℕ → Type 0 = λ j. gap j y' d' < d' in subst P (sym q) (still_more y y' d' w m e h (subst Q q k)))
  | inr (inl (zero, q)) ↦ (
      let one : m ≡ m' + 1 = omega (arith, q) in
      let P : ℕ → Type 0 = λ j. y' + w * j ≡ y in
      let Q : ℕ → Type 0 = λ j. gap j y' d' ≤ d' in
      still_less y y' d' w m' (subst P one e) (subst Q one h) k)
  | inr (inl (suc j, q)) ↦ (let P : ℕ → Type 0 = λ t. gap t y' d' ≤ d' in let far = subst P q h in absurd (far_below d' m' j y' (omega arith) (omega (arith, far))))
  | inr (inr (j, q)) ↦ (let P : ℕ → Type 0 = λ t. gap t y' d' < d' in let far = subst P q k in absurd (far_above d' m j y' (omega (arith, far)) (omega arith)))
]

-- the gap stays
pub gap_stays : (y y' d' w m : ℕ) → y' + w * m ≡ y → gap m y' d' ≡ gap m y (d' + w)
gap_stays y y' d' w m e = grind arith

-- at a cell or set with y units over d, of which the piece has m, a weight w leaves y' over d', and none is too far away
pub record IsTakenAt (d w d' y m y' : ℕ) : Type 0 where
  pub one : 1 ≤ d'
  pub left : d' + w ≡ d
  pub rounded : IsRounded y d m
  pub rest : y' + w * m ≡ y
  pub near : gap m y d ≤ d'

new_gap : (d w d' y m y' : ℕ) → IsTakenAt d w d' y m y' → gap m y' d' ≡ gap m y d
new_gap d w d' y m y' t = gap_stays y y' d' w m t.rest ∙ ap (gap m y) t.left

-- what rounds what is left rounds what there was
pub keeps_rounding : (d w d' y m y' m' : ℕ) → IsTakenAt d w d' y m y' → IsRounded y' d' m' → IsRounded y d m'
keeps_rounding d w d' y m y' m' t rounded =
    let still : gap m' y (d' + w) < d' + w = still_rounds y y' d' w m m' t.rest (omega (arith, new_gap d w d' y m y' t, t.near)) (gap_of_rounded y' d' m' t.one rounded) in
    rounded_of_gap y d m' (omega (arith, t.one, t.left)) (subst (λ (n : ℕ). gap m' y n < n) t.left still)

-- where the gap is all that is left, the piece doesn't round what is left
pub rounds_no_more : (d w d' y m y' : ℕ) → IsTakenAt d w d' y m y' → gap m y d ≡ d' → IsRounded y' d' m → ⊥
rounds_no_more d w d' y m y' t tight rounded = omega (arith, new_gap d w d' y m y' t, tight, gap_of_rounded y' d' m t.one rounded)

multiple : (k d : ℕ) → 1 ≤ d → (k * d) % d ≡ 0
multiple k d one = let same : k * d ≡ k * d + 0 = omega arith in ap (λ n. n % d) same ∙ mod-mul-add k d 0 (omega arith)

even_is : (y d m : ℕ) → 1 ≤ d → y % d ≡ 0 → IsRounded y d m → y ≡ d * m
even_is y d m one e (inl h) = (divided y d one).0 ∙ omega (arith, e, ap (λ n. d * n) h)
even_is y d m one e (inr h) = elim (up_cases y d one) [
  | inl up ↦ (divided y d one).0 ∙ omega (arith, e, ap (λ n. d * n) (h ∙ up.1))
  | inr up ↦ absurd (omega (arith, e, up.0))
]

left_is : (y d' w m y' : ℕ) → y' + w * m ≡ y → y ≡ (d' + w) * m → y' ≡ m * d'
left_is y d' w m y' e h = grind arith

-- a multiple leaves a multiple
pub still_even : (d w d' y m y' : ℕ) → IsTakenAt d w d' y m y' → y % d ≡ 0 → y' % d' ≡ 0
still_even d w d' y m y' t e =
    let is : y ≡ d * m = even_is y d m (omega (arith, t.one, t.left)) e t.rounded in
    let rest : y' ≡ m * d' = left_is y d' w m y' t.rest (is ∙ ap (λ n. n * m) (sym t.left)) in
    ap (λ n. n % d') rest ∙ multiple m d' t.one

apart : (y p d : ℕ) → (y - p) + (p - y) ≡ d → (y ≡ p + d) ⊎ (y + d ≡ p)
apart y p d e = elim (cases_lt y p) [
  | inl h ↦ inr (omega (arith, e, h))
  | inr h ↦ inl (omega (arith, e, h))
]

left_even : (y d m : ℕ) → 1 ≤ d → (y ≡ d * m + d) ⊎ (y + d ≡ d * m) → y % d ≡ 0
left_even y d m one (inl h) = let is : y ≡ (m + 1) * d = grind arith in ap (λ n. n % d) is ∙ multiple (m + 1) d one
left_even y d zero one (inr h) = absurd (omega (arith, h, one))
left_even y d (suc m) one (inr h) = let is : y ≡ m * d = grind arith in ap (λ n. n % d) is ∙ multiple m d one

-- where the gap is all that is left, what is left is a multiple
pub made_even : (d w d' y m y' : ℕ) → IsTakenAt d w d' y m y' → gap m y d ≡ d' → y' % d' ≡ 0
made_even d w d' y m y' t tight = left_even y' d' m t.one (apart y' (d' * m) d' (new_gap d w d' y m y' t ∙ tight))

-- which there was not
pub was_not_even : (d w d' y m y' : ℕ) → IsTakenAt d w d' y m y' → gap m y d ≡ d' → y % d ≡ 0 → ⊥
was_not_even d w d' y m y' t tight e =
    let is : y ≡ d * m = even_is y d m (omega (arith, t.one, t.left)) e t.rounded in
    omega (arith, t.one, is, tight)

no_more : (b c : Bool) → (c ≡ true → b ≡ true) → cond {A = ℕ} (not b) 1 0 ≤ cond {A = ℕ} (not c) 1 0
no_more true c h = omega arith
no_more false false h = omega arith
no_more false true h = absurd (both_ways false refl (h refl))
  where
    both_ways : (b : Bool) → b ≡ false → b ≡ true → ⊥
    both_ways b e f = cc (e, f)

-- what was whole stays whole
pub no_more_fractional : (d w d' y m y' : ℕ) → IsTakenAt d w d' y m y' → cond {A = ℕ} (is_fractional d' y') 1 0 ≤ cond {A = ℕ} (is_fractional d y) 1 0
no_more_fractional d w d' y m y' t =
    no_more (y' % d' == 0) (y % d == 0) (λ e. eq-eqb (y' % d') 0 (still_even d w d' y m y' t (eqb-true (y % d) 0 e)))

-- and what has the gap that is left becomes whole
pub less_fractional : (d w d' y m y' : ℕ) → IsTakenAt d w d' y m y' → gap m y d ≡ d' → cond {A = ℕ} (is_fractional d' y') 1 0 < cond {A = ℕ} (is_fractional d y) 1 0
less_fractional d w d' y m y' t tight =
    let now : (y' % d' == 0) ≡ true = eq-eqb (y' % d') 0 (made_even d w d' y m y' t tight) in
    let before : (y % d == 0) ≡ false = ne_eqb (y % d) 0 (was_not_even d w d' y m y' t tight) in
    omega (arith, ap {B = ℕ} (λ b. cond (not b) 1 0) now, ap {B = ℕ} (λ b. cond (not b) 1 0) before)
