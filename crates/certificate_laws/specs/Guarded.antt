-- What the laws say of the guarded family. The utility guard: Budish, Che, Kojima and Milgrom 2013.
use Rattle.std.specs.Prelude.{◌≡◌, ℕ, ◌-◌, ◌<◌, List, length, map, ℤ, pos, ◌+ℤ◌, ◌-ℤ◌, ◌≤ℤ◌, slice_get, unwrap_or}
use Rattle.std.specs.List.{zip}
use Rattle.definitions.specs.declared.Cell.{Cell}
use Rattle.definitions.specs.Sets.{cell_of, ScaledValue, cells_of, unit_at, units_of, IsHierarchy, IsBihierarchy}
use Rattle.definitions.specs.Values.{ProblemValue, IsProblem, column_count, list_at}
use Rattle.definitions.specs.Assignment.{IsRandomAssignment, worth_sum}
use Rattle.definitions.specs.Certificate.{Falls}
use Rattle.definitions.specs.Rounding.{Rounds}
use Rattle.definitions.specs.Fairness.{guarded_family}

-- the sum of number times units of x over agent i's places, one number for each
abbrev pub places_sum : ProblemValue → ℕ → List ℤ → (Cell → ℕ) → ℤ
places_sum p i numbers x =
    worth_sum (map (λ w. record { worth = w.1; units = x (cell_of i w.0) }) (zip (list_at p i) numbers))

-- the number at this index, from 0
abbrev pub number_at : List ℤ → ℕ → ℤ
number_at numbers k = unwrap_or (slice_get numbers k) (pos 0)

-- the first minus the last number
abbrev pub fall : List ℤ → ℤ
fall numbers = number_at numbers 0 -ℤ number_at numbers (length numbers - 1)

-- m rounds x at every set of the guarded family
abbrev pub RoundsGuarded : ProblemValue → ScaledValue → List ℕ → Type 0
RoundsGuarded p x m = Rounds (column_count p) (cells_of (guarded_family p x)) x.units x.denominator m

-- for an agent and numbers that fall strictly along its list: the sums of number times units in two whole matrices that
-- round a random assignment at every set of its guarded family differ by at most the first minus the last number (one way
-- here; the two may be exchanged)
abbrev pub GuardBound : Type 0
GuardBound = (p : ProblemValue) (x : ScaledValue) (one two : List ℕ) (i : ℕ) (numbers : List ℤ)
    → IsProblem p → x.columns ≡ column_count p → IsRandomAssignment p x.denominator (units_of x)
    → RoundsGuarded p x one → RoundsGuarded p x two
    → i < length p.agents → length numbers ≡ length (list_at p i) → Falls numbers
    → places_sum p i numbers (unit_at (column_count p) one)
    ≤ℤ (places_sum p i numbers (unit_at (column_count p) two) +ℤ fall numbers)

-- where no two stated sets cross, no two sets of one side of the guarded family do
abbrev pub GuardedIsBihierarchy : Type 0
GuardedIsBihierarchy = (p : ProblemValue) (x : ScaledValue)
    → IsProblem p → IsHierarchy p.family 2 → IsBihierarchy (guarded_family p x)
