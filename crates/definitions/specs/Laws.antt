-- What laws say of the definitions themselves: which limits a problem has, and which piece a ticket names.
use Rattle.std.specs.Prelude.{◌≡◌, ℕ, ◌+◌, ◌<◌, ◌≤◌, ◌↔◌, List, [], ◌∷◌, ◌++◌, length, map, take, sum, filter, slice_get, Some, IsTrue}
use Rattle.std.specs.List.{IsDistinct}
use Rattle.definitions.specs.declared.Cell.{Cell}
use Rattle.definitions.specs.Sets.{same_cell, SetValue}
use Rattle.definitions.specs.Values.{Limit, ProblemValue, IsProblem, is_capped, listed_cells, stated_sets, limits_of}
use Rattle.definitions.specs.Tickets.{piece_of}

-- a stated set as a limit
abbrev pub limit_of_set : SetValue → Limit
limit_of_set s = record { ceiling = s.ceiling; cells = s.cells }

-- the limit of one unit at a cell alone
abbrev pub limit_of_cell : Cell → Limit
limit_of_cell c = record { ceiling = 1; cells = c ∷ [] }

-- the capped cells of a problem, agent by agent in list order
abbrev pub capped_cells : ProblemValue → List Cell
capped_cells p = filter (is_capped p) (listed_cells p)

-- a limit after those of the stated sets is that of this cell alone
abbrev pub HasOwnLimit : ProblemValue → Cell → Type 0
HasOwnLimit p c = (j : ℕ) × (p.stated ≤ j) × (slice_get (limits_of p) j ≡ Some (limit_of_cell c))

-- the limits of a lawful problem are its stated sets by number, and then one of one unit for each capped cell, each once;
-- and a cell is capped exactly where one of these later limits is that cell alone
abbrev pub LimitsOfAProblem : Type 0
LimitsOfAProblem = (p : ProblemValue) → IsProblem p
    → (limits_of p ≡ map limit_of_set (stated_sets p) ++ map limit_of_cell (capped_cells p))
    × IsDistinct same_cell (capped_cells p)
    × ((c : Cell) → IsTrue (is_capped p c) ↔ HasOwnLimit p c)

-- ticket t falls on weight k, from 0: the weights before it add up to at most t, and with it to more
pub record FallsOn (weights : List ℕ) (t k : ℕ) : Type 0 where
  pub known : k < length weights
  pub before : sum (take k weights) ≤ t
  pub with_it : t < sum (take (k + 1) weights)

-- a ticket below the sum of the weights falls on one weight, and names its piece
abbrev pub PieceOfTicket : Type 0
PieceOfTicket = (weights : List ℕ) (t : ℕ) → t < sum weights
    → FallsOn weights t (piece_of weights t)
    × ((k : ℕ) → FallsOn weights t k → k ≡ piece_of weights t)
