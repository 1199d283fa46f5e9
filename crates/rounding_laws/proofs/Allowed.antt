-- A weight is allowed exactly where what rounds is at most the weight left away.
use Rattle.std.proofs.Common.{◌≡◌, ℕ, ◌+◌, ◌-◌, ◌*◌, ◌/◌, ◌%◌, ◌<◌, ◌≤◌, ◌⊎◌, arith, inl, inr, subst, sym, ap, ◌∙◌}
use Rattle.definitions.specs.Rounding.{IsRounded, Allows, gap}
use Rattle.rounding_laws.proofs.Rounded.{divided, up_cases}

-- y is q whole parts of d = w + k and r more
low_same : (q r w k : ℕ) → w * q + q * k ≤ (w + k) * q + r
low_same q r w k = grind arith

low_more : (q r w k : ℕ) → gap (q + 1) ((w + k) * q + r) (w + k) ≤ k → r < w + k → w * (q + 1) + q * k ≤ (w + k) * q + r
low_more q r w k g h = grind arith

high_even : (q r w k : ℕ) → r ≡ 0 → (w + k) * q + r ≤ w * q + q * k
high_even q r w k e = grind arith

high_same : (q r w k : ℕ) → gap q ((w + k) * q + r) (w + k) ≤ k → (w + k) * q + r ≤ w * q + (q + 1) * k
high_same q r w k g = grind arith

high_more : (q r w k : ℕ) → r < w + k → (w + k) * q + r ≤ w * (q + 1) + (q + 1) * k
high_more q r w k h = grind arith

gap_from_even : (q r w k : ℕ) → r ≡ 0 → gap q ((w + k) * q + r) (w + k) ≤ k
gap_from_even q r w k e = grind arith

gap_from_high : (q r w k : ℕ) → (w + k) * q + r ≤ w * q + (q + 1) * k → gap q ((w + k) * q + r) (w + k) ≤ k
gap_from_high q r w k h = grind arith

gap_from_low : (q r w k : ℕ) → r < w + k → w * (q + 1) + q * k ≤ (w + k) * q + r → gap (q + 1) ((w + k) * q + r) (w + k) ≤ k
gap_from_low q r w k h g = grind arith

abbrev Near : ℕ → ℕ → ℕ → ℕ → ℕ → Type 0
Near q r w k m = gap m ((w + k) * q + r) (w + k) ≤ k

abbrev Fits : ℕ → ℕ → ℕ → ℕ → ℕ → ℕ → Type 0
Fits q r w k m u = (w * m + q * k ≤ (w + k) * q + r) × ((w + k) * q + r ≤ w * m + u * k)

abbrev IsUp : ℕ → ℕ → ℕ → Type 0
IsUp q r u = ((r ≡ 0) × (u ≡ q)) ⊎ ((0 < r) × (u ≡ q + 1))

near_fits : (q r w k m u : ℕ) → r < w + k → IsUp q r u → (m ≡ q) ⊎ (m ≡ u) → Near q r w k m → Fits q r w k m u
near_fits q r w k m u h (inl up) (inl e) near =
    subst (λ (j : ℕ). Fits q r w k j u) (sym e) (subst (λ (j : ℕ). Fits q r w k q j) (sym up.1) (low_same q r w k, high_even q r w k up.0))
near_fits q r w k m u h (inl up) (inr e) near =
    subst (λ (j : ℕ). Fits q r w k j u) (sym (e ∙ up.1)) (subst (λ (j : ℕ). Fits q r w k q j) (sym up.1) (low_same q r w k, high_even q r w k up.0))
near_fits q r w k m u h (inr up) (inl e) near =
    subst (λ (j : ℕ). Fits q r w k j u) (sym e) (subst (λ (j : ℕ). Fits q r w k q j) (sym up.1) (low_same q r w k, high_same q r w k (subst (Near q r w k) e near)))
near_fits q r w k m u h (inr up) (inr e) near =
    subst (λ (j : ℕ). Fits q r w k j u) (sym (e ∙ up.1)) (subst (λ (j : ℕ). Fits q r w k (q + 1) j) (sym up.1) (low_more q r w k (subst (Near q r w k) (e ∙ up.1) near) h, high_more q r w k h))

fits_near : (q r w k m u : ℕ) → r < w + k → IsUp q r u → (m ≡ q) ⊎ (m ≡ u) → Fits q r w k m u → Near q r w k m
fits_near q r w k m u h (inl up) (inl e) fits = subst (Near q r w k) (sym e) (gap_from_even q r w k up.0)
fits_near q r w k m u h (inl up) (inr e) fits = subst (Near q r w k) (sym (e ∙ up.1)) (gap_from_even q r w k up.0)
fits_near q r w k m u h (inr up) (inl e) fits =
    let f : Fits q r w k q (q + 1) = subst (λ (j : ℕ). Fits q r w k q j) up.1 (subst (λ (j : ℕ). Fits q r w k j u) e fits) in
    subst (Near q r w k) (sym e) (gap_from_high q r w k f.1)
fits_near q r w k m u h (inr up) (inr e) fits =
    let f : Fits q r w k (q + 1) u = subst (λ (j : ℕ). Fits q r w k j u) (e ∙ up.1) fits in
    subst (Near q r w k) (sym (e ∙ up.1)) (gap_from_low q r w k h f.0)

-- a weight is allowed where the gap is at most what is left
pub allows_of_gap : (y d m w : ℕ) → 1 ≤ d → w ≤ d → IsRounded y d m → gap m y d ≤ d - w → Allows y d m w
allows_of_gap y d m w one short rounded near =
    let k : ℕ = d - w in
    let parts = divided y d one in
    let whole : d ≡ w + k = omega arith in
    let is : y ≡ (w + k) * (y / d) + y % d = parts.0 ∙ ap (λ n. n * (y / d) + y % d) whole in
    let low : y % d < w + k = omega (arith, parts.1) in
    let here : Near (y / d) (y % d) w k m = subst (λ (n : ℕ). gap m n (w + k) ≤ k) is (subst (λ (n : ℕ). gap m y n ≤ k) whole near) in
    let fits : (w * m + (y / d) * k ≤ y) × (y ≤ w * m + ((y + d - 1) / d) * k) =
    subst (λ (n : ℕ). (w * m + (y / d) * k ≤ n) × (n ≤ w * m + ((y + d - 1) / d) * k)) (sym is)
    (near_fits (y / d) (y % d) w k m ((y + d - 1) / d) low (up_cases y d one) rounded here) in
    record { low = fits.0; high = fits.1 }

-- and only there
pub gap_of_allows : (y d m w : ℕ) → 1 ≤ d → w ≤ d → IsRounded y d m → Allows y d m w → gap m y d ≤ d - w
gap_of_allows y d m w one short rounded allows =
    let k : ℕ = d - w in
    let parts = divided y d one in
    let whole : d ≡ w + k = omega arith in
    let is : y ≡ (w + k) * (y / d) + y % d = parts.0 ∙ ap (λ n. n * (y / d) + y % d) whole in
    let low : y % d < w + k = omega (arith, parts.1) in
    let fits : Fits (y / d) (y % d) w k m ((y + d - 1) / d) =
    subst (λ (n : ℕ). (w * m + (y / d) * k ≤ n) × (n ≤ w * m + ((y + d - 1) / d) * k)) is (allows.low, allows.high) in
    let here : Near (y / d) (y % d) w k m = fits_near (y / d) (y % d) w k m ((y + d - 1) / d) low (up_cases y d one) rounded fits in
    subst (λ (n : ℕ). gap m y n ≤ k) (sym whole) (subst (λ (n : ℕ). gap m n (w + k) ≤ k) (sym is) here)
