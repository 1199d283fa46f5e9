-- The tables of trees, and what they hold while they are made.
use Rattle.std.specs.Prelude.{◌≡◌, ℕ, ◌-◌, ◌*◌, ◌<◌, ◌⊎◌, List, Option, None, length, MatchOption, slice_index_or, All}
use Rattle.definitions.specs.declared.Cell.{Cell}
use Rattle.definitions.specs.Sets.{FamilyValue, IsSet, IsCellWithin, cell_index}
use Rattle.definitions.specs.Hierarchies.{IsLower, IsHolder, IsParent, HasNoParent}
use Rattle.definitions.specs.Trees.{TreesValue, IsEntry}

-- the trees over so many sets, agents and columns with these tables: the parents, and the deepest sets of sides 1 and 2
abbrev pub trees_from : ℕ → ℕ → ℕ → List (Option ℕ) → List (Option ℕ) → List (Option ℕ) → TreesValue
trees_from sets agents columns parents one two = record {
  sets = sets;
  agents = agents;
  columns = columns;
  parents = parents;
  deepest_one = one;
  deepest_two = two;
}

-- one entry for each set: its parent, or none where it has none
pub record AreParents (f : FamilyValue) (parents : List (Option ℕ)) : Type 0 where
  pub many : length parents ≡ length f.sets
  pub right : (s : ℕ) → IsSet f s → MatchOption (slice_index_or parents (s - 1) None) (HasNoParent f s) (IsParent f s)

-- o is the least by size and then number of the sets with numbers below n of which P holds, or none where there is none
abbrev pub IsLeastOf : FamilyValue → (ℕ → Type 0) → ℕ → Option ℕ → Type 0
IsLeastOf f P n o = MatchOption o ((u : ℕ) → u < n → P u → ⊥) (λ t. P t × ((u : ℕ) → u < n → P u → (u ≡ t) ⊎ IsLower f t u))

-- one entry for each cell, row by row: of the sets of a side with numbers below n that hold it, the least, or none
pub record AreDeepest (f : FamilyValue) (side n : ℕ) (table : List (Option ℕ)) : Type 0 where
  pub many : length table ≡ f.agents * f.columns
  pub entries : All (IsEntry (length f.sets)) table
  pub right : (c : Cell) → IsCellWithin f.agents f.columns c → IsLeastOf f (IsHolder f side c) n (slice_index_or table (cell_index f.columns c) None)
