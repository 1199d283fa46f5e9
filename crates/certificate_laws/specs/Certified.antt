-- What the laws say of certified assignments. That an efficient assignment is best for a sum of utilities: McLennan 2002;
-- stochastic dominance: Bogomolnaia and Moulin 2001. The form of the certificate is the project's.
-- A matrix is a function of cells that counts units, beside its denominator; denominators have no limit.
use Rattle.std.specs.Prelude.{◌≡◌, ℕ, ◌*◌, ◌<◌, ◌≤◌, length, All, pos, ◌*ℤ◌, ◌≤ℤ◌, ◌<ℤ◌}
use Rattle.definitions.specs.declared.Cell.{Cell}
use Rattle.definitions.specs.Sets.{set_sum, row_sum}
use Rattle.definitions.specs.Values.{ProblemValue, IsProblem, column_count, demand_at, limits_of, PricesValue}
use Rattle.definitions.specs.Assignment.{IsRandomAssignment, Dominates, worth_total}
use Rattle.definitions.specs.Certificate.{Certifies, HasShapeOf, Falls}

-- a random assignment over e is worth no more than the certified one over d: both sides are times d * e
abbrev pub DualityBound : Type 0
DualityBound = (p : ProblemValue) (y : PricesValue)
    (d : ℕ) (certified : Cell → ℕ) (e : ℕ) (other : Cell → ℕ) → IsProblem p
    → IsRandomAssignment p d certified → Certifies p d certified y → IsRandomAssignment p e other
    → (pos d *ℤ worth_total p y other) ≤ℤ (pos e *ℤ worth_total p y certified)

-- where worths fall along each list, a random assignment over e that dominates one over d is worth more: both sides are
-- times d * e
abbrev pub DominanceRaisesWorth : Type 0
DominanceRaisesWorth = (p : ProblemValue) (y : PricesValue)
    (d : ℕ) (dominated : Cell → ℕ) (e : ℕ) (other : Cell → ℕ) → IsProblem p
    → HasShapeOf p y → All Falls y.worth → IsRandomAssignment p d dominated
    → IsRandomAssignment p e other → Dominates p e other d dominated
    → (pos e *ℤ worth_total p y dominated) <ℤ (pos d *ℤ worth_total p y other)

-- no random assignment over any denominator dominates a certified one
abbrev pub NoDominance : Type 0
NoDominance = (p : ProblemValue) (y : PricesValue)
    (d : ℕ) (certified : Cell → ℕ) (e : ℕ) (other : Cell → ℕ) → IsProblem p
    → IsRandomAssignment p d certified → Certifies p d certified y → IsRandomAssignment p e other
    → Dominates p e other d certified → ⊥

-- nor does a matrix that has units off the lists, which count for nothing: rows and limits are enough
abbrev pub NoDominanceOffLists : Type 0
NoDominanceOffLists = (p : ProblemValue) (y : PricesValue)
    (d : ℕ) (certified : Cell → ℕ) (e : ℕ) (other : Cell → ℕ) → IsProblem p
    → IsRandomAssignment p d certified → Certifies p d certified y → 1 ≤ e
    → ((i : ℕ) → i < length p.agents → row_sum other (column_count p) i ≡ demand_at p i * e)
    → All (λ s. set_sum other s.cells ≤ s.ceiling * e) (limits_of p)
    → Dominates p e other d certified → ⊥
