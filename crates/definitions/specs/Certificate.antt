-- Prices and worths that certify an assignment, and the recipe that makes them from the eating table.
-- That an efficient assignment is best for a sum of utilities: McLennan 2002. The form of the certificate and the recipe
-- are the project's.
use Rattle.std.specs.Prelude.{◌≡◌, ℕ, suc, ◌+◌, ◌-◌, ◌*◌, ◌<◌, ◌==◌, ◌&&◌, min, max, Bool, false, List, [], ◌∷◌, length, map, fold, ℤ, pos, ◌+ℤ◌, ◌-ℤ◌, ◌≤ℤ◌, ◌<ℤ◌, slice_get, slice_index, Option, Some, None, if◌then◌else◌, All, sum_by, unwrap_or, ⊤, nat_eq, nat_lt, filter, count_by}
use Rattle.std.specs.List.{zip, range_with_len}
use Rattle.std.specs.Set.{unique_keys}
use Rattle.definitions.specs.declared.Cell.{Cell}
use Rattle.definitions.specs.Sets.{cell_of, holds, set_sum, SetValue}
use Rattle.definitions.specs.Values.{ProblemValue, list_at, stated_sets, is_capped, market_of, limits_of, PricesValue, worths_of}
use Rattle.definitions.specs.Trees.{TreesValue, AreTreesOf, parent_at, chain_of}
use Rattle.definitions.specs.Eating.{full_at, share}

-- the worth of place k of agent i's list
abbrev pub worth_at : PricesValue → ℕ → ℕ → ℤ
worth_at y i k = unwrap_or (slice_get (worths_of y i) k) (pos 0)

-- the cell of place k of agent i's list
abbrev pub place_cell : ProblemValue → ℕ → ℕ → Cell
place_cell p i k = cell_of i (slice_index (list_at p i) k)

-- the price of a cell: the sum of the prices of the stated sets that hold it
abbrev pub cell_price : ProblemValue → PricesValue → Cell → ℕ
cell_price p y c = sum_by (λ s. if holds s.0.cells c then s.1 else 0) (zip (stated_sets p) y.price)

-- a capped cell that has all it may have
abbrev pub is_left_out : ProblemValue → ℕ → (Cell → ℕ) → Cell → Bool
is_left_out p d x c = is_capped p c && (x c == d)

-- the worths fall strictly, from below `before` on
abbrev pub FallsFrom : ℤ → List ℤ → Type 0
FallsFrom before [] = ⊤
FallsFrom before (w ∷ ws) = (w <ℤ before) × FallsFrom w ws

-- each worth is below the one before it
abbrev pub Falls : List ℤ → Type 0
Falls [] = ⊤
Falls (w ∷ ws) = FallsFrom w ws

-- one price for each stated set, and for each agent one worth for each place of its list
pub record HasShapeOf (p : ProblemValue) (y : PricesValue) : Type 0 where
  pub prices : length y.price ≡ length (stated_sets p)
  pub lists : length y.worth ≡ length p.lists
  pub places : (i : ℕ) → i < length p.lists → length (worths_of y i) ≡ length (list_at p i)

-- y certifies x over d: worths fall strictly along each list; a set that isn't full has price 0; and at each place with units the worth
-- minus the price of the cell is at least that of each place of the list that isn't left out (written without a difference)
pub record Certifies (p : ProblemValue) (d : ℕ) (x : Cell → ℕ) (y : PricesValue) : Type 0 where
  pub shape : HasShapeOf p y
  pub fall : All Falls y.worth
  pub full : (s : ℕ) (q : SetValue) → slice_get (stated_sets p) s ≡ Some q → set_sum x q.cells < q.ceiling * d → slice_index y.price s ≡ 0
  pub best : (i k j : ℕ) → i < length p.agents → k < length (list_at p i) → j < length (list_at p i)
      → 0 < x (place_cell p i k) → is_left_out p d x (place_cell p i j) ≡ false
      → (worth_at y i j +ℤ pos (cell_price p y (place_cell p i k))) ≤ℤ (worth_at y i k +ℤ pos (cell_price p y (place_cell p i j)))

-- the distinct moments before the end, over all limits of the problem
abbrev pub distinct_moments : List ℕ → ℕ → List ℕ
distinct_moments e d = unique_keys nat_eq (filter (λ m. nat_lt m d) e)

-- the number of a moment: 1 to R in rising order, where R moments are before the end; that of the end is R + 1, which says "no number"
abbrev pub moment_number : List ℕ → ℕ → ℕ → ℕ
moment_number e d v = 1 + count_by (λ m. nat_lt m v) (distinct_moments e d)

-- the rank of a set: the least number that it or a set above it in the tree has, or R + 1; of no set R + 1
abbrev pub chain_rank : TreesValue → List ℕ → ℕ → Option ℕ → ℕ
chain_rank t e d o = fold (λ a s. min a (moment_number e d (slice_index e (s - 1)))) (moment_number e d d) (chain_of t o)

-- the length of the longest list, plus 1
abbrev pub recipe_width : ProblemValue → ℕ
recipe_width p = fold (λ a list. max a (length list)) 0 p.lists + 1

-- the price of set s: the width times what the rank of its parent is above its own
abbrev pub recipe_price : ProblemValue → TreesValue → ℕ → List ℕ → ℕ → ℕ
recipe_price p t d e s = recipe_width p * (chain_rank t e d (parent_at t s) - chain_rank t e d (Some s))

-- a place of a list: whether it is eaten, and the worth that it has if it is
pub record ListPlace : Type 0 where
  pub eaten : Bool
  pub level : ℕ

-- one more, where there is a number
abbrev pub more : Option ℕ → Option ℕ
more None = None
more (Some n) = Some (suc n)

-- the level of the next eaten place plus the distance to it; none after the last eaten place
abbrev pub next_level : List ListPlace → Option ℕ
next_level [] = None
next_level (b ∷ bs) = if b.eaten then Some b.level else more (next_level bs)

-- the worth of a place: that level, or one less than the worth before it
abbrev pub worth_here : ℤ → Option ℕ → ℤ
worth_here before None = before -ℤ pos 1
worth_here before (Some n) = pos n

-- the worths of these places, where `before` is the worth of the place before them
abbrev pub worths_along : ℤ → List ListPlace → List ℤ
worths_along before [] = []
worths_along before (b ∷ bs) = worth_here before (next_level (b ∷ bs)) ∷ worths_along (worth_here before (next_level (b ∷ bs))) bs

-- the place of column a on agent i's list; its level is the width times what R + 1 is above the number of the moment at which it is full
abbrev pub place_of_list : ProblemValue → ℕ → List ℕ → ℕ → ℕ → ListPlace
place_of_list p d e i a = record {
  eaten = nat_lt 0 (share (market_of p) d e i a);
  level = recipe_width p * (moment_number e d d - moment_number e d (full_at d (limits_of p) e i a));
}

-- the worths of agent i's list. Each list has an eaten place, so the worth before the first is never used
abbrev pub recipe_worths : ProblemValue → ℕ → List ℕ → ℕ → List ℤ
recipe_worths p d e i = worths_along (pos 0) (map (place_of_list p d e i) (list_at p i))

-- y are the prices and worths of the recipe, for the table e over d. Trees of a family are one by their entries
pub record IsRecipeOf (p : ProblemValue) (d : ℕ) (e : List ℕ) (y : PricesValue) : Type 0 where
  pub trees : TreesValue
  pub of_family : AreTreesOf p.family trees
  pub prices : y.price ≡ map (recipe_price p trees d e) (range_with_len 1 p.stated)
  pub worths : y.worth ≡ map (recipe_worths p d e) (range_with_len 0 (length p.lists))
