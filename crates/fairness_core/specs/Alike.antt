-- What tells two agents apart: demands, capped cells, and the stated sets.
use Rattle.std.specs.Prelude.{◌≡◌, ℕ, ◌<◌, List, map, IsTrue}
use Rattle.definitions.specs.declared.Cell.{Cell}
use Rattle.definitions.specs.Sets.{cell_of, holds}
use Rattle.definitions.specs.Values.{ProblemValue, is_capped}

-- a cell of agent i is capped, so a limit holds it alone
abbrev pub HasCappedCell : ProblemValue → ℕ → Type 0
HasCappedCell p i = (a : ℕ) × IsTrue (is_capped p (cell_of i a))

-- the columns of cells, in order
abbrev pub columns_of : List Cell → List ℕ
columns_of cells = map (λ c. c.object) cells

-- of each of the first n columns the cells are i's cell exactly where they are j's
abbrev pub HoldsAlike : ℕ → ℕ → ℕ → List Cell → Type 0
HoldsAlike n i j cells = (a : ℕ) → a < n → holds cells (cell_of i a) ≡ holds cells (cell_of j a)
