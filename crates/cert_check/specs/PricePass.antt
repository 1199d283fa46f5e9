-- What follows where prices and worths certify an assignment. That an efficient assignment is best for a sum of
-- utilities: McLennan 2002; stochastic dominance: Bogomolnaia and Moulin 2001. The form of the certificate is the project's.
-- A matrix is a function of cells that counts units, beside its denominator; denominators have no limit.
use Rattle.std.specs.Prelude.{◌≡◌, ℕ, ◌*◌, ◌<◌, ◌≤◌, length, All, pos, ◌*ℤ◌, ◌≤ℤ◌}
use Rattle.definitions.specs.declared.Cell.{Cell}
use Rattle.definitions.specs.Sets.{set_sum, row_sum, units_of, ScaledValue}
use Rattle.definitions.specs.Values.{ProblemValue, column_count, demand_at, limits_of, PricesValue}
use Rattle.definitions.specs.Assignment.{IsRandomAssignment, Dominates, worth_total}
use Rattle.definitions.specs.Certificate.{Certifies}

-- x is a random assignment of the problem, and y certifies it
abbrev pub IsCertified : ProblemValue → ScaledValue → PricesValue → Type 0
IsCertified p x y =
    IsRandomAssignment p x.denominator (units_of x) × Certifies p x.denominator (units_of x) y

-- no random assignment over any denominator is worth more than x over d: both sides are times d * e
abbrev pub IsWorthMost : ProblemValue → PricesValue → ℕ → (Cell → ℕ) → Type 0
IsWorthMost p y d x = (e : ℕ) (other : Cell → ℕ) → IsRandomAssignment p e other
    → (pos d *ℤ worth_total p y other) ≤ℤ (pos e *ℤ worth_total p y x)

-- no random assignment over any denominator dominates x over d
abbrev pub IsUndominated : ProblemValue → ℕ → (Cell → ℕ) → Type 0
IsUndominated p d x = (e : ℕ) (other : Cell → ℕ) → IsRandomAssignment p e other
    → Dominates p e other d x → ⊥

-- nor does a matrix that has units off the lists, which count for nothing: rows and limits are enough
abbrev pub IsUndominatedOffLists : ProblemValue → ℕ → (Cell → ℕ) → Type 0
IsUndominatedOffLists p d x = (e : ℕ) (other : Cell → ℕ) → 1 ≤ e
    → ((i : ℕ) → i < length p.agents → row_sum other (column_count p) i ≡ demand_at p i * e)
    → All (λ s. set_sum other s.cells ≤ s.ceiling * e) (limits_of p)
    → Dominates p e other d x → ⊥
