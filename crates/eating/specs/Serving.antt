-- What is written into the rows of matrices in the end.
use Rattle.std.specs.Prelude.{◌≡◌, ℕ, ◌+◌, ◌<◌, List, length, slice_get, slice_index, Some, nat_eq, if◌then◌else◌, All, drop, false}
use Rattle.std.specs.List.{IsDistinct}
use Rattle.std.specs.Set.{is_member}
use Rattle.definitions.specs.Sets.{cell_of, holds}
use Rattle.definitions.specs.Values.{Agent, Market}
use Rattle.definitions.specs.Eating.{full_at}
use Rattle.eating.specs.Plan.{LineValue, IsLineOf, AreLinesOf}

-- the line of agent i of a market, whose list has no column twice, and a moment for each limit
pub record IsServable (market : Market) (i : ℕ) (w : Agent) (line : LineValue) (moments : List ℕ) : Type 0 where
  pub agent : slice_get market.agents i ≡ Some w
  pub apart : IsDistinct nat_eq w.list
  pub is_line : IsLineOf market i w line
  pub many : length moments ≡ length market.limits

-- in the row that begins at `start` the columns in the list have the numbers of g, and nothing else changes up to the row's end
pub record IsRow (g : ℕ → ℕ) (list : List ℕ) (start : ℕ) (old new : List ℕ) : Type 0 where
  pub row : (a : ℕ) → slice_index new (start + a) ≡ (if is_member nat_eq list a then g a else slice_index old (start + a))
  pub before : (n : ℕ) → n < start → slice_index new n ≡ slice_index old n

-- no list has a column from `columns` on
abbrev pub AreListsWithin : ℕ → List LineValue → Type 0
AreListsWithin columns lines = (i : ℕ) (line : LineValue) → slice_get lines i ≡ Some line → All (λ a. a < columns) line.columns

-- the lines of a market whose lists have no column twice, and a moment for each limit
pub record IsServed (market : Market) (lines : List LineValue) (moments : List ℕ) : Type 0 where
  pub lines_of : AreLinesOf market lines
  pub apart : (i : ℕ) (w : Agent) → slice_get market.agents i ≡ Some w → IsDistinct nat_eq w.list
  pub many : length moments ≡ length market.limits

-- the limits from number `stated` on hold no cell off the lists
abbrev pub IsUncappedOffLists : Market → ℕ → Type 0
IsUncappedOffLists market stated = (i a : ℕ) (w : Agent) → slice_get market.agents i ≡ Some w → is_member nat_eq w.list a ≡ false
    → All (λ s. holds s.cells (cell_of i a) ≡ false) (drop stated market.limits)

-- the moment at which agent i can't eat of column a by the limits from number `stated` on, or D where none of them holds the cell
abbrev pub cap_in : Market → ℕ → List ℕ → ℕ → ℕ → ℕ → ℕ
cap_in market D e stated i a = full_at D (drop stated market.limits) (drop stated e) i a
