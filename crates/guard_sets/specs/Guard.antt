-- The guarded family within its limits, pieces that decompose an assignment for it, and what they bound.
-- The utility guard: Budish, Che, Kojima and Milgrom 2013. The limits are the project's.
use Rattle.std.specs.Prelude.{◌≡◌, ℕ, ◌+◌, ◌*◌, ◌/◌, ◌<◌, ◌≤◌, ◌⊎◌, List, length, map, sum_by, All, Some, slice_get, ℤ, ◌+ℤ◌, ◌≤ℤ◌}
use Rattle.std.specs.List.{range_with_len}
use Rattle.definitions.specs.Sets.{SetValue, ScaledValue, cells_in, cells_of, units_of}
use Rattle.definitions.specs.Values.{ProblemValue, PieceValue, column_count, list_at}
use Rattle.definitions.specs.Assignment.{IsRandomAssignment}
use Rattle.definitions.specs.Certificate.{Falls}
use Rattle.definitions.specs.Pieces.{Decomposes, AreGives, piece_count, weighted_pieces}
use Rattle.definitions.specs.Fairness.{guarded_family, prefix_set}
use Rattle.certificate_laws.specs.Guarded.{places_sum, fall}
use Rattle.guard_sets.specs.declared.fault.GuardFault.{GuardFault}
use Rattle.guard_sets.specs.declared.fault.GuardFault.TheVariants.{OverGuard, NoMemory}

-- the matrix has the problem's shape and is a random assignment of it over its denominator
pub record IsAssigned (p : ProblemValue) (x : ScaledValue) : Type 0 where
  pub agents : x.agents ≡ length p.agents
  pub columns : x.columns ≡ column_count p
  pub assignment : IsRandomAssignment p x.denominator (units_of x)

-- the sets of agent i's first places, by their number
abbrev pub fronts_of : ProblemValue → ScaledValue → ℕ → List SetValue
fronts_of p x i = map (prefix_set p x i) (range_with_len 1 (length (list_at p i)))

-- 1 + 2 + .. + n
abbrev pub triangle : ℕ → ℕ
triangle n = n * (n + 1) / 2

-- how many sets the family has with those of the first n agents' first places
abbrev pub sets_up_to : ProblemValue → ℕ → ℕ
sets_up_to p n = length p.family.sets + sum_by (λ i. length (list_at p i)) (range_with_len 0 n)

-- and how many cells
abbrev pub cells_up_to : ProblemValue → ℕ → ℕ
cells_up_to p n = cells_in p.family.sets + sum_by (λ i. triangle (length (list_at p i))) (range_with_len 0 n)

-- the guarded family is within the limits of a family
pub record FitsGuard (p : ProblemValue) (x : ScaledValue) : Type 0 where
  pub sets : length (guarded_family p x).sets ≤ 2000
  pub cells : cells_in (guarded_family p x).sets ≤ 1201000

-- the guarded family has so many sets and cells, and one of the two is above its limit
pub record IsOverGuard (p : ProblemValue) (x : ScaledValue) (sets cells : ℕ) : Type 0 where
  pub sets_are : sets ≡ length (guarded_family p x).sets
  pub cells_are : cells ≡ cells_in (guarded_family p x).sets
  pub over : (2000 < sets) ⊎ (1201000 < cells)

-- the guarded family passes a limit, and the fault carries both numbers; or it doesn't, and memory was refused
abbrev pub IsGuardFault : ProblemValue → ScaledValue → GuardFault → Type 0
IsGuardFault p x (OverGuard sets cells) = IsOverGuard p x sets cells
IsGuardFault p x NoMemory = FitsGuard p x

-- pieces that decompose x for its guarded family, with weights of at least 1 that add up to the denominator and lawful gives
pub record IsGuardedLottery (p : ProblemValue) (x : ScaledValue) (pieces : List PieceValue) : Type 0 where
  pub decompose : Decomposes (column_count p) (cells_of (guarded_family p x)) x.units x.denominator (weighted_pieces (length p.agents) (column_count p) pieces)
  pub weights : All (λ w. 1 ≤ w.weight) pieces
  pub adds_up : sum_by (λ w. w.weight) pieces ≡ x.denominator
  pub gives : All (λ w. AreGives (length p.agents) (column_count p) w.gives) pieces

-- for each agent and numbers that fall strictly along its list: of any two pieces the sums of number times count differ by at most
-- the first minus the last number (one way here; the two may be exchanged)
abbrev pub SumsAreNear : ProblemValue → List PieceValue → Type 0
SumsAreNear p pieces = (i : ℕ) (numbers : List ℤ) (j k : ℕ) (one other : PieceValue)
    → i < length p.agents → length numbers ≡ length (list_at p i) → Falls numbers
    → slice_get pieces j ≡ Some one → slice_get pieces k ≡ Some other
    → places_sum p i numbers (piece_count one.gives) ≤ℤ (places_sum p i numbers (piece_count other.gives) +ℤ fall numbers)
