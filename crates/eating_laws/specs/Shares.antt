-- What the laws say of what the agents have in the end, at any table but where an eating table is asked for.
use Rattle.std.specs.Prelude.{◌≡◌, ℕ, ◌-◌, ◌*◌, ◌<◌, ◌≤◌, false, List, length, sum_by, All, slice_get, Some}
use Rattle.std.specs.List.{IsDistinct, range_with_len}
use Rattle.definitions.specs.declared.Cell.{Cell}
use Rattle.definitions.specs.Sets.{cell_of, holds, same_cell, set_sum, ScaledValue, units_of}
use Rattle.definitions.specs.Values.{Agent, Market, ProblemValue, IsProblem, market_of, column_count}
use Rattle.definitions.specs.Eating.{eaten_by, share, moment_at, limit_cells, limit_ceiling, IsAssignmentOf, IsEatingTable}
use Rattle.definitions.specs.Assignment.{IsRandomAssignment}

-- no limit holds the cell of agent i and column a
abbrev pub IsFree : Market → ℕ → ℕ → Type 0
IsFree market i a = All (λ s. holds s.cells (cell_of i a) ≡ false) market.limits

-- an agent's shares of all columns add up to its demand, where no limit holds its last column
abbrev pub RowsAddUp : Type 0
RowsAddUp = (market : Market) (D : ℕ) (e : List ℕ) (i columns last : ℕ) (w : Agent)
    → slice_get market.agents i ≡ Some w → All (λ a. a < columns) w.list
    → slice_get w.list (length w.list - 1) ≡ Some last → IsFree market i last
    → sum_by (share market D e i) (range_with_len 0 columns) ≡ w.demand * D

-- the shares of the cells of a set add up to what is eaten of it by the end
abbrev pub SumsAreEaten : Type 0
SumsAreEaten = (market : Market) (D : ℕ) (e : List ℕ) (cells : List Cell)
    → IsDistinct same_cell cells
    → set_sum (λ c. share market D e c.agent c.object) cells ≡ eaten_by market D e cells D

-- what is eaten of limit j by moment t
abbrev pub eaten_of_limit : Market → ℕ → List ℕ → ℕ → ℕ → ℕ
eaten_of_limit market D e j t = eaten_by market D e (limit_cells market j) t

-- of limit j nothing more is eaten once it is full: in the end it isn't passed, and it is full where its number is before
-- the end
pub record StaysFull (market : Market) (D : ℕ) (e : List ℕ) (j : ℕ) : Type 0 where
  pub stays : (t : ℕ) → moment_at e j ≤ t
      → eaten_of_limit market D e j t ≡ eaten_of_limit market D e j (moment_at e j)
  pub within : eaten_of_limit market D e j D ≤ limit_ceiling market j * D
  pub whole : moment_at e j < D → eaten_of_limit market D e j D ≡ limit_ceiling market j * D

-- so it is of each limit of an eating table
abbrev pub EatenStays : Type 0
EatenStays = (market : Market) (D : ℕ) (e : List ℕ) (j : ℕ)
    → IsEatingTable market D e → j < length e → StaysFull market D e j

-- the assignment of an eating table of a lawful problem is a random assignment of the problem
abbrev pub EatingIsAnAssignment : Type 0
EatingIsAnAssignment = (p : ProblemValue) (x : ScaledValue) (e : List ℕ)
    → IsProblem p → IsEatingTable (market_of p) x.denominator e
    → IsAssignmentOf (column_count p) (market_of p) x.denominator e x
    → IsRandomAssignment p x.denominator (units_of x)
