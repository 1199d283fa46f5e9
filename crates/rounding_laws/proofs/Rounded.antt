-- Rounding in numbers: m rounds y over d exactly where it is less than d away, times d.
use Rattle.std.proofs.Common.{◌≡◌, ℕ, ◌+◌, ◌-◌, ◌*◌, ◌/◌, ◌%◌, ◌<◌, ◌≤◌, ◌⊎◌, suc, zero, refl, arith, inl, inr, subst, sym, ap, ◌∙◌}
use Rattle.std.proofs.lemmas.Nat.{div-mul-add}
use Rattle.definitions.specs.Rounding.{IsRounded, gap}

gap_of_down : (y d m : ℕ) → 1 ≤ d → m ≡ y / d → gap m y d < d
gap_of_down y d m one h = grind arith

gap_of_up : (y d m : ℕ) → 1 ≤ d → m ≡ (y + d - 1) / d → gap m y d < d
gap_of_up y d m one h = grind arith

-- what rounds y is less than d away
pub gap_of_rounded : (y d m : ℕ) → 1 ≤ d → IsRounded y d m → gap m y d < d
gap_of_rounded y d m one (inl h) = gap_of_down y d m one h
gap_of_rounded y d m one (inr h) = gap_of_up y d m one h

floor_kept : (floor y d m : ℕ) → floor * d ≤ y → y < d * m + d → floor ≤ m
floor_kept floor y d m h g = grind arith

ceiling_kept : (ceiling y d m : ℕ) → y ≤ ceiling * d → d * m < y + d → m ≤ ceiling
ceiling_kept ceiling y d m h g = grind arith

-- whole bounds of y are bounds of what rounds it
pub rounded_within : (floor ceiling y d m : ℕ) → 1 ≤ d → IsRounded y d m → floor * d ≤ y → y ≤ ceiling * d → (floor ≤ m) × (m ≤ ceiling)
rounded_within floor ceiling y d m one h low high =
    let g : gap m y d < d = gap_of_rounded y d m one h in
    (floor_kept floor y d m low (omega arith), ceiling_kept ceiling y d m high (omega arith))

too_low : (d m k r : ℕ) → d * (m + suc k) + r < d * m + d → ⊥
too_low d m k r h = grind arith

too_high : (d q k r : ℕ) → r < d → d * (q + suc (suc k)) < d * q + r + d → ⊥
too_high d q k r a h = grind arith

exact : (d q r : ℕ) → r < d → d * (q + 1) < d * q + r + d → 0 < r
exact d q r a h = grind arith

-- m is q, q + 1, smaller or larger
pub placed : (m q : ℕ) → ((m ≡ q) ⊎ (m ≡ q + 1)) ⊎ (((k : ℕ) × (q ≡ m + suc k)) ⊎ ((k : ℕ) × (m ≡ q + suc (suc k))))
placed zero zero = inl (inl refl)
placed zero (suc q) = inr (inl (q, omega arith))
placed (suc zero) zero = inl (inr refl)
placed (suc (suc m)) zero = inr (inr (m, omega arith))
placed (suc m) (suc q) = elim (placed m q) [
  | inl (inl e) ↦ inl (inl (omega (arith, e)))
  | inl (inr e) ↦ inl (inr (omega (arith, e)))
  | inr (inl h) ↦ inr (inl (h.0, omega (arith, h.1)))
  | inr (inr h) ↦ inr (inr (h.0, omega (arith, h.1)))
]

-- what is less than d away from q times d and r more is q, or q + 1 where r isn't 0
pub between : (d q m r : ℕ) → r < d → d * m < d * q + r + d → d * q + r < d * m + d → (m ≡ q) ⊎ ((m ≡ q + 1) × (0 < r))
between d q m r a b c = elim (placed m q) [
  | inl (inl e) ↦ inl e
  | inl (inr e) ↦ (let P : ℕ → Type 0 = λ j. d * j < d * q + r + d in inr (e, exact d q r a (subst P e b)))
  | inr (inl h) ↦ (let P : ℕ → Type 0 = λ j. d * j + r < d * m + d in absurd (too_low d m h.0 r (subst P h.1 c)))
  | inr (inr h) ↦ (let P : ℕ → Type 0 = λ j. d * j < d * q + r + d in absurd (too_high d q h.0 r a (subst P h.1 b)))
]

-- y is a whole number of d and a part
pub divided : (y d : ℕ) → 1 ≤ d → (y ≡ d * (y / d) + y % d) × (y % d < d)
divided y d one = (grind arith, grind arith)

rounded_up : (y d q r : ℕ) → 1 ≤ d → y ≡ d * q + r → 0 < r → r < d → q + 1 ≡ (y + d - 1) / d
rounded_up y d q r one e some low =
    let back : y + d - 1 ≡ (q + 1) * d + (r - 1) = grind arith in
    sym (ap (λ n. n / d) back ∙ div-mul-add (q + 1) d (r - 1) (omega arith))

-- what is less than d away rounds y
pub rounded_of_gap : (y d m : ℕ) → 1 ≤ d → gap m y d < d → IsRounded y d m
rounded_of_gap y d m one h =
    let whole = divided y d one in
    let whole_is : y ≡ d * (y / d) + y % d = whole.0 in
    elim (between d (y / d) m (y % d) whole.1 (omega (arith, whole_is, h)) (omega (arith, whole_is, h))) [
      | inl e ↦ inl e
      | inr e ↦ inr (e.0 ∙ rounded_up y d (y / d) (y % d) one whole.0 e.1 whole.1)
    ]

rounded_even : (y d q : ℕ) → 1 ≤ d → y ≡ d * q → (y + d - 1) / d ≡ q
rounded_even y d q one e =
    let back : y + d - 1 ≡ q * d + (d - 1) = grind arith in
    ap (λ n. n / d) back ∙ div-mul-add q d (d - 1) (omega arith)

-- rounded up is rounded down where nothing is left, and else one more
pub up_cases : (y d : ℕ) → 1 ≤ d → ((y % d ≡ 0) × ((y + d - 1) / d ≡ y / d)) ⊎ ((0 < y % d) × ((y + d - 1) / d ≡ y / d + 1))
up_cases y d one = some_left (y % d) refl
  where
    some_left : (r : ℕ) → y % d ≡ r → ((y % d ≡ 0) × ((y + d - 1) / d ≡ y / d)) ⊎ ((0 < y % d) × ((y + d - 1) / d ≡ y / d + 1))
    some_left zero e = (let whole = divided y d one in inl (e, rounded_even y d (y / d) one (omega (arith, whole.0, e))))
    some_left (suc r) e = (let whole = divided y d one in let some : 0 < y % d = omega (arith, e) in inr (some, sym (rounded_up y d (y / d) (y % d) one whole.0 some whole.1)))
