-- The first fault of pieces: checks 13 to 17, each a look at one place after another.
-- The project's order of checks. Agents, columns, sets and pieces count from 0 here, and from 1 in a fault.
use Rattle.std.specs.Prelude.{◌<◌, ◌≡◌, ℕ, true, ◌+◌, ◌-◌, ◌*◌, ◌/◌, ◌≤◌, ◌==◌, ◌&&◌, ◌||◌, Bool, AllPairs, map, not, List, [], length, slice_index, slice_index_or, nat_lt, nat_le, count_by, Option, Some, None, if◌then◌else◌, All, sum_by}
use Rattle.std.specs.Option.{option_or}
use Rattle.std.specs.Cmp.Lexicographic.{pointwise}
use Rattle.definitions.specs.declared.Cell.{Cell}
use Rattle.definitions.specs.declared.Give.{Give}
use Rattle.definitions.specs.declared.Pieces.{Pieces}
use Rattle.definitions.specs.Sets.{cell_of, IsBefore, cells_of, set_sum, units_of, FamilyValue, IsFamily, ScaledValue, IsScaledMatrix, IsCellWithin}
use Rattle.definitions.specs.Values.{PieceValue, piece_value}
use Rattle.definitions.specs.Rounding.{fractional_count}
use Rattle.definitions.specs.Pieces.{piece_count, AreGives, Decomposes, weighted_pieces}
use Rattle.definitions.specs.Tickets.{named_units}
use Rattle.definitions.specs.Firsts.{first_in}
use Rattle.cert_check.specs.declared.faults.Fault.{Fault}
use Rattle.cert_check.specs.declared.faults.Fault.TheVariants.{TooManyPieces, CellNotRounded, SetNotRounded, SamePieces, CellNotMet}
use Rattle.cert_check.specs.PriceFaults.{no_set}

-- x is a matrix of the family's agents and columns
pub record IsMatrixFor (f : FamilyValue) (x : ScaledValue) : Type 0 where
  pub agents : x.agents ≡ f.agents
  pub columns : x.columns ≡ f.columns

-- x has at most 1,000 agents and 201 columns
pub record IsSmallMatrix (x : ScaledValue) : Type 0 where
  pub agents : x.agents ≤ 1000
  pub columns : x.columns ≤ 201

-- pieces with weights of at least 1 that add up to the denominator, and lawful gives
pub record ArePiecesFor (x : ScaledValue) (ps : List PieceValue) : Type 0 where
  pub weights : All (λ q. 1 ≤ q.weight) ps
  pub adds_up : sum_by (λ q. q.weight) ps ≡ x.denominator
  pub gives : All (λ q. AreGives x.agents x.columns q.gives) ps

-- a lawful family, and a lawful matrix of its agents and columns
pub record IsFamilyMatrix (f : FamilyValue) (x : ScaledValue) : Type 0 where
  pub family : IsFamily f
  pub lawful : IsScaledMatrix x
  pub matrix : IsMatrixFor f x

-- a lawful matrix of at most 1,000 agents and 201 columns, and pieces for it
pub record ArePiecesOf (x : ScaledValue) (ps : List PieceValue) : Type 0 where
  pub lawful : IsScaledMatrix x
  pub small : IsSmallMatrix x
  pub pieces : ArePiecesFor x ps

-- what contracts see of pieces
abbrev pub pieces_value : Pieces → List PieceValue
pieces_value p = map piece_value p.list.items

-- the gives rise strictly by agent and then column
abbrev pub AreRising : List Give → Type 0
AreRising gives = AllPairs (λ g h. IsBefore (cell_of g.agent g.object) (cell_of h.agent h.object)) gives

-- the piece at index k: its weight, and what it gives
abbrev pub no_piece : PieceValue
no_piece = record { weight = 0; gives = [] }

abbrev pub weight_at : List PieceValue → ℕ → ℕ
weight_at ps k = (slice_index_or ps k no_piece).weight

abbrev pub gives_at : List PieceValue → ℕ → List Give
gives_at ps k = (slice_index_or ps k no_piece).gives

-- the cells of the set at index s
abbrev pub cells_in_set : FamilyValue → ℕ → List Cell
cells_in_set f s = (slice_index_or f.sets s no_set).cells

-- m is y over d, rounded down or up
abbrev pub is_rounded : ℕ → ℕ → ℕ → Bool
is_rounded y d m = (m == y / d) || (m == (y + d - 1) / d)

-- the most pieces that there may be
abbrev pub piece_bound : FamilyValue → ScaledValue → ℕ
piece_bound f x = fractional_count x.columns (cells_of f) x.units x.denominator + 1

-- 13: more pieces than F + 1
abbrev pub many_fault : FamilyValue → ScaledValue → List PieceValue → Option Fault
many_fault f x ps = if nat_lt (piece_bound f x) (length ps) then Some (TooManyPieces (length ps) (piece_bound f x)) else None

-- 14: the count isn't X(c) over D rounded down or up
abbrev pub cell_look : ScaledValue → List PieceValue → ℕ → ℕ → ℕ → Option Fault
cell_look x ps k i a =
    if not (is_rounded (units_of x (cell_of i a)) x.denominator (piece_count (gives_at ps k) (cell_of i a)))
    then Some (CellNotRounded (k + 1) (i + 1) (a + 1) (piece_count (gives_at ps k) (cell_of i a))) else None

-- 15: the sum isn't X(S) over D rounded down or up
abbrev pub set_look : FamilyValue → ScaledValue → List PieceValue → ℕ → ℕ → Option Fault
set_look f x ps k s =
    if not (is_rounded (set_sum (units_of x) (cells_in_set f s)) x.denominator (set_sum (piece_count (gives_at ps k)) (cells_in_set f s)))
    then Some (SetNotRounded (k + 1) (s + 1) (set_sum (piece_count (gives_at ps k)) (cells_in_set f s))) else None

-- 16: two pieces give the same
abbrev pub same_give : Give → Give → Bool
same_give g h = (g.agent == h.agent) && ((g.object == h.object) && (g.count == h.count))

abbrev pub same_look : List PieceValue → ℕ → ℕ → Option Fault
same_look ps a b = if pointwise same_give (gives_at ps a) (gives_at ps b) then Some (SamePieces (a + 1) (b + 1)) else None

-- 17: the weighted sum isn't X(c)
abbrev pub given_units : List PieceValue → Cell → ℕ
given_units ps c = sum_by (λ q. q.weight * piece_count q.gives c) ps

abbrev pub met_look : ScaledValue → List PieceValue → ℕ → ℕ → Option Fault
met_look x ps i a =
    if not (given_units ps (cell_of i a) == units_of x (cell_of i a))
    then Some (CellNotMet (i + 1) (a + 1) (given_units ps (cell_of i a)) (units_of x (cell_of i a))) else None

-- the first fault of each check
abbrev pub cell_fault_in : ScaledValue → List PieceValue → ℕ → Option Fault
cell_fault_in x ps k = first_in (λ i. first_in (cell_look x ps k i) 0 x.columns) 0 x.agents

abbrev pub cell_fault : ScaledValue → List PieceValue → Option Fault
cell_fault x ps = first_in (cell_fault_in x ps) 0 (length ps)

abbrev pub set_fault : FamilyValue → ScaledValue → List PieceValue → Option Fault
set_fault f x ps = first_in (λ k. first_in (set_look f x ps k) 0 (length f.sets)) 0 (length ps)

abbrev pub same_fault : List PieceValue → Option Fault
same_fault ps = first_in (λ a. first_in (same_look ps a) (a + 1) (length ps - (a + 1))) 0 (length ps)

abbrev pub met_fault : ScaledValue → List PieceValue → Option Fault
met_fault x ps = first_in (λ i. first_in (met_look x ps i) 0 x.columns) 0 x.agents

-- the first fault of pieces
abbrev pub first_piece_fault : FamilyValue → ScaledValue → List PieceValue → Option Fault
first_piece_fault f x ps =
    option_or (many_fault f x ps) (option_or (cell_fault x ps) (option_or (set_fault f x ps) (option_or (same_fault ps) (met_fault x ps))))

-- the cell has at least the denominator
abbrev pub is_whole : ScaledValue → Cell → Bool
is_whole x c = nat_le x.denominator (units_of x c)

-- how many cells have
abbrev pub whole_count : ScaledValue → ℕ
whole_count x = count_by (λ u. nat_le x.denominator u) x.units

-- what the gives give at each cell is its units over the denominator, rounded down or up
abbrev pub AreRoundedCells : ScaledValue → List Give → Type 0
AreRoundedCells x gives = (c : Cell) → IsCellWithin x.agents x.columns c
    → is_rounded (units_of x c) x.denominator (piece_count gives c) ≡ true

-- the pieces decompose the matrix for the family
abbrev pub AreDecomposition : FamilyValue → ScaledValue → List PieceValue → Type 0
AreDecomposition f x ps =
    Decomposes x.columns (cells_of f) x.units x.denominator (weighted_pieces x.agents x.columns ps)

-- the named units of each cell are its units
abbrev pub AreUnitsNamed : ScaledValue → List PieceValue → Type 0
AreUnitsNamed x ps =
    (c : Cell) → IsCellWithin x.agents x.columns c → named_units ps c ≡ units_of x c

-- what gives of one agent give in a column
abbrev pub given_in : List Give → ℕ → ℕ
given_in gives a = sum_by (λ g. if g.object == a then g.count else 0) gives

-- the weighted sums of agent i's row, by column
pub record AreTotals (ps : List PieceValue) (i : ℕ) (row : List ℕ) : Type 0 where
  pub many : length row ≡ 201
  pub totals : (a : ℕ) → a < 201 → slice_index row a ≡ given_units ps (cell_of i a)
