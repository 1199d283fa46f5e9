-- What the laws say of eating tables. Simultaneous eating: Bogomolnaia and Moulin 2001. The laws are the project's.
use Rattle.std.specs.Prelude.{◌≡◌, ℕ, ◌*◌, ◌<◌, ◌≤◌, List, length, map}
use Rattle.definitions.specs.Values.{Market}
use Rattle.definitions.specs.Eating.{moment_at, IsEatingTable, IsLowestTerms, IsPartialTable}

-- each number is the same part of its denominator in both
abbrev pub AreProportional : ℕ → List ℕ → ℕ → List ℕ → Type 0
AreProportional D e D' e' = (j : ℕ) → j < length e → moment_at e j * D' ≡ moment_at e' j * D

-- two eating tables of one market are proportional, and equal where both are in lowest terms
abbrev pub TableIsUnique : Type 0
TableIsUnique = (market : Market) (D D' : ℕ) (e e' : List ℕ)
    → IsEatingTable market D e → IsEatingTable market D' e'
    → AreProportional D e D' e' × (IsLowestTerms D e → IsLowestTerms D' e' → (D ≡ D') × (e ≡ e'))

-- the table with each number times c
abbrev pub finer : ℕ → List ℕ → List ℕ
finer c e = map (λ x. c * x) e

-- a table over D is one over c * D with each number times c, so it is right at the moments between whole moments too
abbrev pub FinerMoments : Type 0
FinerMoments = (market : Market) (c D : ℕ) (e : List ℕ) → 1 ≤ c
    → (IsEatingTable market D e → IsEatingTable market (c * D) (finer c e))
    × ((m : ℕ) → IsPartialTable market D m e → IsPartialTable market (c * D) (c * m) (finer c e))
