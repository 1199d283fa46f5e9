-- Shares in units over a denominator, and their sums.
use Rattle.std.proofs.Common.{◌≡◌, ℕ, ◌+◌, ◌*◌, ◌/◌, ◌<◌, ◌≤◌, ◌∙◌, List, [], ◌∷◌, ◌++◌, length, get_or, take, ap, subst, arith, All, mul_assoc}
use Rattle.std.specs.Prelude.{sum, slice_get, Some}
use Rattle.std.specs.Int.{◌∣◌}
use Rattle.std.proofs.Math.Nat.{mul-div_cancel', div-mul_cancel, mul-le-mul_right}
use Rattle.std.proofs.lemmas.List.{get_or-map, length-map, take_more, take-take}
use Rattle.std.proofs.lemmas.List.Sums.{sum_by_push, sum_by-take-le}
use Rattle.std.proofs.lemmas.Option.{slice_get_within, get_or_from_slice_get}
use Rattle.definitions.specs.Values.{Ratio}
use Rattle.scaled_matrix.specs.Entries.{IsShare}
use Rattle.scaled_matrix.specs.Scaling.{unit_of, units_in}
use Rattle.scaled_matrix.proofs.Denominators.{denominator_divides}

-- a share of at most 1,000 is at most that in units
pub unit_bound : (num den d : ℕ) → num ≤ 1000 * den → den ∣ d → num * (d / den) ≤ 1000 * d
unit_bound num den d limit divides =
    let times : num * (d / den) ≤ 1000 * den * (d / den) = mul-le-mul_right (d / den) limit in
    let whole : 1000 * den * (d / den) ≡ 1000 * d = mul_assoc 1000 den (d / den) ∙ ap (λ n. 1000 * n) (mul-div_cancel' den divides) in
    omega (arith, times, whole)

unit_exact : (d : ℕ) (s : Ratio) → s.den ∣ d → unit_of d s * s.den ≡ s.num * d
unit_exact d s divides = mul_assoc s.num (d / s.den) s.den ∙ ap (λ n. s.num * n) (div-mul_cancel s.den divides)

-- the units are exact
pub units_exact : (d : ℕ) (entries : List Ratio) → All IsShare entries → All (λ s. s.den ∣ s.num * d) entries → (k : ℕ) (s : Ratio) → slice_get entries k ≡ Some s
    → get_or (units_in d entries) k 0 * s.den ≡ s.num * d
units_exact d entries lawful common k s found =
    let within : k < length entries = slice_get_within entries k s found in
    let at : get_or entries k s ≡ s = get_or_from_slice_get entries k s s found in
    let unit : get_or (units_in d entries) k 0 ≡ unit_of d s = get_or-map (unit_of d) entries k s 0 within ∙ ap (unit_of d) at in
    let share : IsShare s = subst IsShare at (lawful k s within) in
    let whole : s.den ∣ s.num * d = subst (λ (r : Ratio). r.den ∣ r.num * d) at (common k s within) in
    ap (λ n. n * s.den) unit ∙ unit_exact d s (denominator_divides d s share whole)

-- the units of the first entries with one more
pub units_more : (d : ℕ) (entries : List Ratio) (k : ℕ) (s : Ratio) → k < length entries → get_or entries k s ≡ s
    → take (k + 1) (units_in d entries) ≡ take k (units_in d entries) ++ unit_of d s ∷ []
units_more d entries k s within at =
    let many : length (units_in d entries) ≡ length entries = length-map entries (unit_of d) in
    take_more (units_in d entries) k 0 (omega arith)
    ∙ ap (λ n. take k (units_in d entries) ++ n ∷ []) (get_or-map (unit_of d) entries k s 0 within ∙ ap (unit_of d) at)

-- and their sum
pub sum_more : (d : ℕ) (entries : List Ratio) (k : ℕ) (s : Ratio) → k < length entries → get_or entries k s ≡ s
    → sum (take (k + 1) (units_in d entries)) ≡ sum (take k (units_in d entries)) + unit_of d s
sum_more d entries k s within at =
    ap sum (units_more d entries k s within at) ∙ sum_by_push (λ (n : ℕ). n) (take k (units_in d entries)) (unit_of d s)

-- sums rise with the front
pub sums_rise : (units : List ℕ) (j k : ℕ) → j ≤ k → sum (take j units) ≤ sum (take k units)
sums_rise units j k le =
    let same : take j (take k units) ≡ take j units = take-take j k units le in
    let part = sum_by-take-le (λ (n : ℕ). n) (take k units) j in
    rw same at part
