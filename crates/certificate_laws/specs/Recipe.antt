-- What the laws say of the recipe's numbers, place by place and set by set: without tables, and without running along a list
-- or up a chain. The recipe is the project's.
use Rattle.std.specs.Prelude.{◌≡◌, ℕ, ◌+◌, ◌-◌, ◌*◌, ◌<◌, ◌≤◌, ◌⊎◌, ◌↔◌, List, length, map, pos, ◌+ℤ◌, ◌-ℤ◌, slice_index}
use Rattle.std.specs.List.{range_with_len}
use Rattle.definitions.specs.Sets.{set_size}
use Rattle.definitions.specs.Values.{ProblemValue, IsProblem, PricesValue, list_at, limits_of, market_of, worths_of}
use Rattle.definitions.specs.Hierarchies.{IsAbove}
use Rattle.definitions.specs.Eating.{full_at, moment_at, share, IsEatingTable}
use Rattle.definitions.specs.Certificate.{distinct_moments, moment_number, recipe_width, recipe_worths, worth_at, IsRecipeOf}

-- the number after those of all moments before the end, which says "no number": R + 1 where R distinct moments are before the end
abbrev pub no_number : ℕ → List ℕ → ℕ
no_number d e = length (distinct_moments e d) + 1

-- what agent i has of place k of its list in the end
abbrev pub share_of_place : ProblemValue → ℕ → List ℕ → ℕ → ℕ → ℕ
share_of_place p d e i k = share (market_of p) d e i (slice_index (list_at p i) k)

-- the number of the moment from which place k of agent i's list is full
abbrev pub number_of_place : ProblemValue → ℕ → List ℕ → ℕ → ℕ → ℕ
number_of_place p d e i k =
    moment_number e d (full_at d (limits_of p) e i (slice_index (list_at p i) k))

-- of the places of agent i's list from place k on, place j is the first that is eaten
pub record IsNextEaten (p : ProblemValue) (d : ℕ) (e : List ℕ) (i k j : ℕ) : Type 0 where
  pub from : k ≤ j
  pub known : j < length (list_at p i)
  pub eaten : 0 < share_of_place p d e i j
  pub first : (l : ℕ) → k ≤ l → l < j → share_of_place p d e i l ≡ 0

-- the worths of agent i's list: at an eaten place the width times what "no number" is above the number of its moment; before an
-- eaten place the worth of the next one plus the distance to it; and after the last eaten place 1 less from place to place
pub record AreWorthsOfList (p : ProblemValue) (d : ℕ) (e : List ℕ) (y : PricesValue) (i : ℕ) : Type 0 where
  pub many : length (worths_of y i) ≡ length (list_at p i)
  pub eaten : (k : ℕ) → k < length (list_at p i) → 0 < share_of_place p d e i k
      → worth_at y i k ≡ pos (recipe_width p * (no_number d e - number_of_place p d e i k))
  pub ahead : (k j : ℕ) → IsNextEaten p d e i k j → worth_at y i k ≡ (worth_at y i j +ℤ pos (j - k))
  pub past : (k : ℕ) → k + 1 < length (list_at p i)
      → ((l : ℕ) → k < l → l < length (list_at p i) → share_of_place p d e i l ≡ 0)
      → worth_at y i (k + 1) ≡ (worth_at y i k -ℤ pos 1)

-- so are the worths of each list
abbrev pub AreWorthsByPlace : ProblemValue → ℕ → List ℕ → PricesValue → Type 0
AreWorthsByPlace p d e y =
    (length y.worth ≡ length p.lists) × ((i : ℕ) → i < length p.agents → AreWorthsOfList p d e y i)

-- agent i eats of some place of its list
abbrev pub HasEatenPlace : ProblemValue → ℕ → List ℕ → ℕ → Type 0
HasEatenPlace p d e i = (k : ℕ) × (k < length (list_at p i)) × (0 < share_of_place p d e i k)

-- for a lawful problem and its eating table the recipe's worths are those that are so at each place, and no others; each
-- list has an eaten place
pub record AreRecipeWorthsByPlace (p : ProblemValue) (d : ℕ) (e : List ℕ) : Type 0 where
  pub worths : (y : PricesValue)
      → (y.worth ≡ map (recipe_worths p d e) (range_with_len 0 (length p.lists))) ↔ AreWorthsByPlace p d e y
  pub eaten : (i : ℕ) → i < length p.agents → HasEatenPlace p d e i

abbrev pub WorthsByPlaces : Type 0
WorthsByPlaces = (p : ProblemValue) (d : ℕ) (e : List ℕ)
    → IsProblem p → IsEatingTable (market_of p) d e → AreRecipeWorthsByPlace p d e

-- the number of the moment of set s, from 1
abbrev pub number_of_set : ℕ → List ℕ → ℕ → ℕ
number_of_set d e s = moment_number e d (moment_at e (s - 1))

-- n is the least number of these sets, and "no number" where none has one
pub record IsLeastNumber (d : ℕ) (e : List ℕ) (Sets : ℕ → Type 0) (n : ℕ) : Type 0 where
  pub most : n ≤ no_number d e
  pub each : (s : ℕ) → Sets s → n ≤ number_of_set d e s
  pub one : (n ≡ no_number d e) ⊎ ((s : ℕ) × Sets s × (n ≡ number_of_set d e s))

-- set u is above set s, which has a cell: nothing counts as above an empty set
abbrev pub IsOver : ProblemValue → ℕ → ℕ → Type 0
IsOver p s u = (0 < set_size p.family s) × IsAbove p.family s u

-- the price of set s: the width times what the least number of the sets above it is above the least of these and its own
pub record IsPriceBySets (p : ProblemValue) (d : ℕ) (e : List ℕ) (s price : ℕ) : Type 0 where
  pub rank : ℕ
  pub rank_above : ℕ
  pub own : IsLeastNumber d e (λ u. (u ≡ s) ⊎ IsOver p s u) rank
  pub above : IsLeastNumber d e (IsOver p s) rank_above
  pub value : price ≡ recipe_width p * (rank_above - rank)

-- the recipe's prices, set by set
abbrev pub PricesBySets : Type 0
PricesBySets = (p : ProblemValue) (d : ℕ) (e : List ℕ) (y : PricesValue)
    → IsProblem p → IsRecipeOf p d e y
    → (length y.price ≡ p.stated)
    × ((s : ℕ) → 0 < s → s ≤ p.stated → IsPriceBySets p d e s (slice_index y.price (s - 1)))

-- a problem has one recipe over a table, whatever tables of parents are taken
abbrev pub OneRecipe : Type 0
OneRecipe = (p : ProblemValue) (d : ℕ) (e : List ℕ) (y z : PricesValue)
    → IsProblem p → IsRecipeOf p d e y → IsRecipeOf p d e z → y ≡ z
