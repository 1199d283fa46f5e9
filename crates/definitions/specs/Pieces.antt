-- Weighted whole matrices that make up an expected one.
-- Lotteries over whole assignments: Budish, Che, Kojima and Milgrom 2013. That no two pieces are equal, and the bound on
-- their number, are the project's.
use Rattle.std.specs.Prelude.{◌≡◌, ◌≢◌, ℕ, ◌+◌, ◌*◌, ◌<◌, ◌≤◌, List, length, map, slice_index, All, AllPairs, sum_by, if◌then◌else◌}
use Rattle.definitions.specs.declared.Cell.{Cell}
use Rattle.definitions.specs.declared.Give.{Give}
use Rattle.definitions.specs.Sets.{cell_of, same_cell, all_cells, IsBefore}
use Rattle.definitions.specs.Values.{PieceValue}
use Rattle.definitions.specs.Rounding.{Rounds, fractional_count}

-- a piece as its weight and its whole matrix
pub record WeightedMatrix : Type 0 where
  pub weight : ℕ
  pub matrix : List ℕ

-- how much the gives give at a cell
abbrev pub piece_count : List Give → Cell → ℕ
piece_count gives c = sum_by (λ g. if same_cell (cell_of g.agent g.object) c then g.count else 0) gives

-- the whole matrix of these gives
abbrev pub matrix_of : ℕ → ℕ → List Give → List ℕ
matrix_of agents columns gives = map (piece_count gives) (all_cells agents columns)

-- a piece as a matrix
abbrev pub weighted : ℕ → ℕ → PieceValue → WeightedMatrix
weighted agents columns p = record { weight = p.weight; matrix = matrix_of agents columns p.gives }

-- pieces as matrices
abbrev pub weighted_pieces : ℕ → ℕ → List PieceValue → List WeightedMatrix
weighted_pieces agents columns ps = map (weighted agents columns) ps

-- the gives are in range, rise strictly by agent and then column, and have counts from 1 to 1,000
abbrev pub AreGives : ℕ → ℕ → List Give → Type 0
AreGives agents columns gives = All (λ g. (g.agent < agents) × (g.object < columns) × (1 ≤ g.count) × (g.count ≤ 1000)) gives
    × AllPairs (λ g h. IsBefore (cell_of g.agent g.object) (cell_of h.agent h.object)) gives

-- the pieces decompose x over d: weights of at least 1 that add up to d, each cell met, each piece a rounding of x, no two equal,
-- and at most one more than there are fractional cells and sets
pub record Decomposes (columns : ℕ) (sets : List (List Cell)) (x : List ℕ) (d : ℕ) (ps : List WeightedMatrix) : Type 0 where
  pub weights : All (λ p. 1 ≤ p.weight) ps
  pub adds_up : sum_by (λ p. p.weight) ps ≡ d
  pub cells : (i : ℕ) → i < length x → sum_by (λ p. p.weight * slice_index p.matrix i) ps ≡ slice_index x i
  pub rounded : All (λ p. Rounds columns sets x d p.matrix) ps
  pub distinct : AllPairs (λ p q. p.matrix ≢ q.matrix) ps
  pub few : length ps ≤ fractional_count columns sets x d + 1
