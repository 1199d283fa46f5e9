-- What a whole matrix keeps of the matrix that it rounds.
use Rattle.std.specs.Prelude.{◌≡◌, ℕ, ◌<◌, ◌≤◌, List, length, slice_index}
use Rattle.definitions.specs.declared.Cell.{Cell}
use Rattle.definitions.specs.Sets.{FamilyValue, ScaledValue, cells_of, IsFeasible, MeetsQuotas}
use Rattle.definitions.specs.Rounding.{Rounds}

-- a whole matrix that rounds a feasible one meets every quota
abbrev pub RoundingKeepsQuotas : Type 0
RoundingKeepsQuotas = (f : FamilyValue) (x : ScaledValue) (m : List ℕ)
    → 0 < x.denominator → x.columns ≡ f.columns
    → IsFeasible f x → Rounds f.columns (cells_of f) x.units x.denominator m → MeetsQuotas f m

-- it has at most one unit at a cell that has at most one whole unit
abbrev pub SmallCellsStaySmall : Type 0
SmallCellsStaySmall = (columns d i : ℕ) (sets : List (List Cell)) (y m : List ℕ)
    → 0 < d → Rounds columns sets y d m
    → i < length y → slice_index y i ≤ d → slice_index m i ≤ 1
