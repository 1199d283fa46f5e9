-- Cells, sets of cells with quotas, and families of them.
-- Constraint sets, bihierarchies and quotas: Budish, Che, Kojima and Milgrom 2013. The limits are the project's.
-- Agents and columns count from 0. Sets are numbered from 1: set s stands at index s - 1.
use Rattle.std.specs.Prelude.{◌≡◌, ℕ, ◌+◌, ◌-◌, ◌*◌, ◌<◌, ◌≤◌, ◌^◌, ◌⊎◌, ◌==◌, ◌&&◌, Bool, not, List, [], length, map, take, IsTrue, slice_get, slice_index, nat_lt, if◌then◌else◌, sum, sum_by, All, AllPairs, unwrap_or, flat_map, Some}
use Rattle.std.specs.List.{list_all, list_any, range_with_len}
use Rattle.std.specs.Set.{is_member}
use Rattle.definitions.specs.declared.Cell.{Cell}

-- the cell of agent i and column a
abbrev pub cell_of : ℕ → ℕ → Cell
cell_of i a = record { agent = i; object = a }

-- the two are one cell
abbrev pub same_cell : Cell → Cell → Bool
same_cell a b = (a.agent == b.agent) && (a.object == b.object)

-- the cell is in the list
abbrev pub holds : List Cell → Cell → Bool
holds cells c = is_member same_cell cells c

-- the two share a cell
abbrev pub overlaps : List Cell → List Cell → Bool
overlaps a b = list_any (holds b) a

-- the second contains the first
abbrev pub is_subset : List Cell → List Cell → Bool
is_subset a b = list_all (holds b) a

-- the two share a cell, and neither contains the other
abbrev pub crosses : List Cell → List Cell → Bool
crosses a b = overlaps a b && (not (is_subset a b) && not (is_subset b a))

-- where a cell stands in a matrix that is listed row by row
abbrev pub cell_index : ℕ → Cell → ℕ
cell_index columns c = c.agent * columns + c.object

-- the number of a matrix at a cell, and 0 out of range
abbrev pub unit_at : ℕ → List ℕ → Cell → ℕ
unit_at columns units c = if nat_lt c.object columns then slice_index units (cell_index columns c) else 0

-- the cells of agent i's row
abbrev pub row_cells : ℕ → ℕ → List Cell
row_cells columns i = map (cell_of i) (range_with_len 0 columns)

-- the cells of a matrix, row by row
abbrev pub all_cells : ℕ → ℕ → List Cell
all_cells agents columns = flat_map (row_cells columns) (range_with_len 0 agents)

-- x(S): the sum of x over the cells of a set, which is 0 for an empty set
abbrev pub set_sum : (Cell → ℕ) → List Cell → ℕ
set_sum x cells = sum_by x cells

-- the sum of x over agent i's row
abbrev pub row_sum : (Cell → ℕ) → ℕ → ℕ → ℕ
row_sum x columns i = set_sum x (row_cells columns i)

-- the sum of agent j's units of the first k columns of a list
abbrev pub prefix_sum : (Cell → ℕ) → ℕ → List ℕ → ℕ → ℕ
prefix_sum x j list k = sum_by (λ a. x (cell_of j a)) (take k list)

-- a set with quotas, on side 1 or 2
pub record SetValue : Type 0 where
  pub side : ℕ
  pub floor : ℕ
  pub ceiling : ℕ
  pub cells : List Cell

-- a comes before b, by agent and then object
abbrev pub IsBefore : Cell → Cell → Type 0
IsBefore a b = (a.agent < b.agent) ⊎ ((a.agent ≡ b.agent) × (a.object < b.object))

-- the cells rise strictly by agent and then object, so none stands there twice
abbrev pub IsRising : List Cell → Type 0
IsRising cells = AllPairs IsBefore cells

-- a lawful set: a known side, rising cells, and a floor that is at most the ceiling, which is at most 1,000
pub record IsQuotaSet (s : SetValue) : Type 0 where
  pub side : (s.side ≡ 1) ⊎ (s.side ≡ 2)
  pub rise : IsRising s.cells
  pub quotas : s.floor ≤ s.ceiling
  pub limit : s.ceiling ≤ 1000

-- sets over the cells of a matrix with so many agents and columns
pub record FamilyValue : Type 0 where
  pub agents : ℕ
  pub columns : ℕ
  pub sets : List SetValue

-- the cell is within so many agents and columns
abbrev pub IsCellWithin : ℕ → ℕ → Cell → Type 0
IsCellWithin agents columns c = (c.agent < agents) × (c.object < columns)

-- each cell of the set is
abbrev pub IsInRange : ℕ → ℕ → SetValue → Type 0
IsInRange agents columns s = All (IsCellWithin agents columns) s.cells

-- the number of cells, counted over all sets
abbrev pub cells_in : List SetValue → ℕ
cells_in sets = sum_by (λ s. length s.cells) sets

-- a lawful family: lawful sets in range, within the limits
pub record IsFamily (f : FamilyValue) : Type 0 where
  pub agents_limit : f.agents ≤ 1000
  pub columns_limit : f.columns ≤ 201
  pub lawful : All IsQuotaSet f.sets
  pub inside : All (IsInRange f.agents f.columns) f.sets
  pub sets_limit : length f.sets ≤ 2000
  pub cells_limit : cells_in f.sets ≤ 1201000

-- the cells of each set of a family
abbrev pub cells_of : FamilyValue → List (List Cell)
cells_of f = map (λ s. s.cells) f.sets

-- the side of each set of a family
abbrev pub sides_of : FamilyValue → List ℕ
sides_of f = map (λ s. s.side) f.sets

-- the cells of set s, for s from 1 on, and none above the sets. No set has the number 0, which reads here as 1
abbrev pub cells_at : List (List Cell) → ℕ → List Cell
cells_at sets s = unwrap_or (slice_get sets (s - 1)) []

-- s is the number of a set
abbrev pub IsNumberOf : List (List Cell) → ℕ → Type 0
IsNumberOf sets s = (0 < s) × (s ≤ length sets)

-- s is the number of a set of the family
abbrev pub IsSet : FamilyValue → ℕ → Type 0
IsSet f s = (0 < s) × (s ≤ length f.sets)

-- the cells of set s, for s from 1 on
abbrev pub set_cells : FamilyValue → ℕ → List Cell
set_cells f s = cells_at (cells_of f) s

-- how many cells set s has, for s from 1 on
abbrev pub set_size : FamilyValue → ℕ → ℕ
set_size f s = length (set_cells f s)

-- the side of set s, for s from 1 on, and 0 above the sets
abbrev pub set_side : FamilyValue → ℕ → ℕ
set_side f s = slice_index (sides_of f) (s - 1)

-- sets s and t share a cell, and neither contains the other, whatever their sides
abbrev pub Cross : List (List Cell) → ℕ → ℕ → Type 0
Cross sets s t = IsTrue (crosses (cells_at sets s) (cells_at sets t))

-- no two sets with one side cross; the sides stand in the order of the sets
abbrev pub NoCrossing : List (List Cell) → List ℕ → Type 0
NoCrossing sets sides = (s t : ℕ) → IsNumberOf sets s → IsNumberOf sets t
    → slice_index sides (s - 1) ≡ slice_index sides (t - 1) → Cross sets s t → ⊥

-- no two sets of this side cross: the side is a hierarchy
abbrev pub IsHierarchy : FamilyValue → ℕ → Type 0
IsHierarchy f side = (s t : ℕ) → IsSet f s → IsSet f t
    → set_side f s ≡ side → set_side f t ≡ side → Cross (cells_of f) s t → ⊥

-- both sides are hierarchies
abbrev pub IsBihierarchy : FamilyValue → Type 0
IsBihierarchy f = IsHierarchy f 1 × IsHierarchy f 2

-- a matrix of whole numbers of units over one denominator, row by row
pub record ScaledValue : Type 0 where
  pub denominator : ℕ
  pub agents : ℕ
  pub columns : ℕ
  pub units : List ℕ

-- a lawful matrix: a denominator from 1 to 2^116, one number for each cell, and at most 1,000 in all
pub record IsScaledMatrix (x : ScaledValue) : Type 0 where
  pub one : 0 < x.denominator
  pub limit : x.denominator ≤ 2 ^ 116
  pub shape : length x.units ≡ x.agents * x.columns
  pub total : sum x.units ≤ 1000 * x.denominator

-- the units at a cell
abbrev pub units_of : ScaledValue → Cell → ℕ
units_of x = unit_at x.columns x.units

-- the set's sum lies within its quotas
abbrev pub IsSetFeasible : ScaledValue → SetValue → Type 0
IsSetFeasible x s = (s.floor * x.denominator ≤ set_sum (units_of x) s.cells) × (set_sum (units_of x) s.cells ≤ s.ceiling * x.denominator)

-- each set's sum lies within its quotas
abbrev pub IsFeasible : FamilyValue → ScaledValue → Type 0
IsFeasible f x = All (IsSetFeasible x) f.sets

-- the set with this number is the first whose sum breaks its quotas, and this is its sum
pub record IsFirstInfeasible (f : FamilyValue) (x : ScaledValue) (number total : ℕ) : Type 0 where
  pub known : 0 < number
  pub failing : SetValue
  pub found : slice_get f.sets (number - 1) ≡ Some failing
  pub is_sum : total ≡ set_sum (units_of x) failing.cells
  pub breaks : (total < failing.floor * x.denominator) ⊎ (failing.ceiling * x.denominator < total)
  pub before : (k : ℕ) (s : SetValue) → k + 1 < number → slice_get f.sets k ≡ Some s → IsSetFeasible x s

-- the sum of a whole matrix over each set lies between that set's floor and ceiling
abbrev pub MeetsQuotas : FamilyValue → List ℕ → Type 0
MeetsQuotas f m = All (λ s. (s.floor ≤ set_sum (unit_at f.columns m) s.cells) × (set_sum (unit_at f.columns m) s.cells ≤ s.ceiling)) f.sets
