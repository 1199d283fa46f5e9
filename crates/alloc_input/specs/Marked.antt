-- What contracts say of cells under construction.
use Rattle.std.specs.Prelude.{◌≡◌, ◌≤◌, [], ℕ, List, filter, get_or, length}
use Rattle.std.specs.List.{sum_by}
use Rattle.definitions.specs.declared.Cell.{Cell}
use Rattle.definitions.specs.Sets.{all_cells}
use Rattle.alloc_input.specs.Cells.{has_number}
use Rattle.alloc_input.specs.Numbers.{AreNumbersBelow}
use Rattle.alloc_input.specs.declared.quotas.marks.Marks.{Marks}

-- the columns of an agent's row
abbrev pub row_of : List (List ℕ) → ℕ → List ℕ
row_of rows i = get_or rows i []

-- the cells that are marked, in order
unfoldable pub cells_in_rows : ℕ → ℕ → List (List ℕ) → List Cell
cells_in_rows m n rows = filter (λ c. has_number (row_of rows c.agent) c.object) (all_cells m n)

-- the cells of a set that grows
abbrev pub marked_cells : Marks → List Cell
marked_cells s = cells_in_rows s.agents s.columns s.rows.items

-- rows of columns below n, for at most m agents, with this many cells
pub record AreRows (m n : ℕ) (rows : List (List ℕ)) (count : ℕ) : Type 0 where
  pub below : (i : ℕ) → AreNumbersBelow n (row_of rows i)
  pub shape : length rows ≤ m
  pub counted : count ≡ sum_by length rows

-- its rows have columns of the matrix, and it counts them
abbrev pub IsMarked : Marks → Type 0
IsMarked s = AreRows s.agents s.columns s.rows.items s.count

-- a set of cells that has grown, over the same matrix
abbrev pub IsGrown : Marks → Marks → Type 0
IsGrown old new = IsMarked new × (new.agents ≡ old.agents) × (new.columns ≡ old.columns)
