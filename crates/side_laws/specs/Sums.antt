-- What the law on sums says: sums and least numbers over the sets that hold a cell are those along the cell's chain.
use Rattle.std.specs.Prelude.{◌≡◌, ℕ, ◌⊎◌, ◌==◌, ◌&&◌, min, Bool, List, length, fold, filter, sum_by, if◌then◌else◌, nat_eq}
use Rattle.std.specs.List.{range_with_len}
use Rattle.std.specs.Set.{is_member}
use Rattle.definitions.specs.declared.Cell.{Cell}
use Rattle.definitions.specs.Sets.{FamilyValue, IsFamily, IsSet, IsCellWithin, set_cells, set_side, set_sum, holds, all_cells}
use Rattle.definitions.specs.Trees.{TreesValue, AreTreesOf, deepest_at, chain_of}

-- the set is of this side and holds the cell
abbrev pub is_holder : FamilyValue → ℕ → Cell → ℕ → Bool
is_holder f side c s = (set_side f s == side) && holds (set_cells f s) c

-- the sets of this side that hold the cell, by number
abbrev pub holders : FamilyValue → ℕ → Cell → List ℕ
holders f side c = filter (is_holder f side c) (range_with_len 1 (length f.sets))

-- the least of `most` and v over these sets
abbrev pub least_over : ℕ → (ℕ → ℕ) → List ℕ → ℕ
least_over most v sets = fold (λ a s. min a (v s)) most sets

-- the chain of a cell's deepest set of a side
abbrev pub cell_chain : TreesValue → ℕ → Cell → List ℕ
cell_chain t side c = chain_of t (deepest_at t side c)

-- the sum of w over the sets of a side that hold a cell is that along the cell's chain; so is the least of v
pub record AlongChain (f : FamilyValue) (t : TreesValue) (side : ℕ) (c : Cell) : Type 0 where
  pub sums : (w : ℕ → ℕ) → sum_by w (cell_chain t side c) ≡ sum_by w (holders f side c)
  pub least : (most : ℕ) (v : ℕ → ℕ)
      → least_over most v (cell_chain t side c) ≡ least_over most v (holders f side c)

-- the sum of x over the cells whose chain passes set s
abbrev pub sum_passing : FamilyValue → TreesValue → ℕ → ℕ → (Cell → ℕ) → ℕ
sum_passing f t side s x =
    sum_by (λ c. if is_member nat_eq (cell_chain t side c) s then x c else 0) (all_cells f.agents f.columns)

-- at each cell sums and least numbers are those along its chain; and the sum of x over a set of a side is the sum over the
-- cells whose chain on that side passes the set
pub record AreSumsByChains (f : FamilyValue) (t : TreesValue) (side : ℕ) : Type 0 where
  pub cells : (c : Cell) → IsCellWithin f.agents f.columns c → AlongChain f t side c
  pub sets : (s : ℕ) (x : Cell → ℕ) → IsSet f s → set_side f s ≡ side
      → set_sum x (set_cells f s) ≡ sum_passing f t side s x

-- so it is in the trees of a lawful family
abbrev pub SumsByChains : Type 0
SumsByChains = (f : FamilyValue) (t : TreesValue) → IsFamily f → AreTreesOf f t
    → (side : ℕ) → (side ≡ 1) ⊎ (side ≡ 2) → AreSumsByChains f t side
