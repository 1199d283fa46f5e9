-- For each cell, in rows of 201 places, the sets that hold it; and what pieces may give over each set.
use Rattle.std.specs.Prelude.{◌≡◌, ℕ, ◌+◌, ◌-◌, ◌*◌, ◌/◌, ◌<◌, ◌==◌, ◌||◌, Bool, List, [], Vec, count_by, length, map, slice_index_or, sum_by, if◌then◌else◌}
use Rattle.std.specs.declared.alloc.Global.{Global}
use Rattle.definitions.specs.declared.Give.{Give}
use Rattle.definitions.specs.Sets.{FamilyValue, ScaledValue, cell_index, cell_of, set_sum, units_of}
use Rattle.cert_check.specs.declared.set_sums.Bounds.{Bounds}
use Rattle.cert_check.specs.PieceFaults.{cells_in_set}

-- lists as contracts see them
abbrev pub lists_of : List (Vec ℕ Global) → List (List ℕ)
lists_of lists = map (λ (list : Vec ℕ Global). list.items) lists

-- how often a number stands in the list at a place
abbrev pub times_in : List (List ℕ) → ℕ → ℕ → ℕ
times_in lists place n = count_by (λ t. t == n) (slice_index_or lists place [])

-- each set stands at the place of a cell as often as it holds the cell
pub record AreHolders (f : FamilyValue) (lists : List (List ℕ)) : Type 0 where
  pub many : length lists ≡ f.agents * 201
  pub times : (place s : ℕ) → place < f.agents * 201
      → times_in lists place s ≡ count_by (λ c. cell_index 201 c == place) (cells_in_set f s)

-- where a give stands
abbrev pub give_place : Give → ℕ
give_place g = cell_index 201 (cell_of g.agent g.object)

-- a count, as often as s stands among these indices
abbrev pub counted_at : ℕ → List ℕ → ℕ → ℕ
counted_at count indices s = sum_by (λ n. if n == s then count else 0) indices

-- what gives give over the set at index s, by the lists of the sets that hold each cell
abbrev pub held_sum : List (List ℕ) → List Give → ℕ → ℕ
held_sum lists gives s = sum_by (λ g. counted_at g.count (slice_index_or lists (give_place g) []) s) gives

-- the bounds at an index
abbrev pub no_bounds : Bounds
no_bounds = record { low = 0; high = 0 }

abbrev pub bounds_at : List Bounds → ℕ → Bounds
bounds_at bounds s = slice_index_or bounds s no_bounds

-- m is one of the two
abbrev pub is_bounded : Bounds → ℕ → Bool
is_bounded b m = (m == b.low) || (m == b.high)

-- for each set its units over the denominator, rounded down and up
pub record AreBounds (f : FamilyValue) (x : ScaledValue) (bounds : List Bounds) : Type 0 where
  pub many : length bounds ≡ length f.sets
  pub low : (s : ℕ) → s < length f.sets → (bounds_at bounds s).low ≡ set_sum (units_of x) (cells_in_set f s) / x.denominator
  pub high : (s : ℕ) → s < length f.sets
      → (bounds_at bounds s).high ≡ (set_sum (units_of x) (cells_in_set f s) + x.denominator - 1) / x.denominator
