-- The trees of a bihierarchy as tables, as the code keeps them, and the chain of sets above a set.
-- Hierarchies has what the entries mean. Sets are numbered from 1: set s stands at index s - 1.
use Rattle.std.specs.Prelude.{◌≡◌, ℕ, zero, suc, ◌-◌, ◌*◌, ◌<◌, ◌≤◌, ◌⊎◌, ◌==◌, List, [], ◌∷◌, length, Option, Some, None, MatchOption, IfSome, slice_index_or, if◌then◌else◌, All}
use Rattle.definitions.specs.declared.Cell.{Cell}
use Rattle.definitions.specs.Sets.{cell_index, FamilyValue, IsBihierarchy, IsSet, IsCellWithin}
use Rattle.definitions.specs.Hierarchies.{IsParent, HasNoParent, IsHolder, IsDeepest}

-- two trees as tables: the parent of each set, and for each side the deepest set at each cell, row by row
pub record TreesValue : Type 0 where
  pub sets : ℕ
  pub agents : ℕ
  pub columns : ℕ
  pub parents : List (Option ℕ)
  pub deepest_one : List (Option ℕ)
  pub deepest_two : List (Option ℕ)

-- the number of a set, or none
abbrev pub IsEntry : ℕ → Option ℕ → Type 0
IsEntry sets o = IfSome o (λ s. (0 < s) × (s ≤ sets))

-- the tables have one entry for each set or cell, and each entry is the number of a set, or none
pub record IsTrees (t : TreesValue) : Type 0 where
  pub parents_many : length t.parents ≡ t.sets
  pub ones_many : length t.deepest_one ≡ t.agents * t.columns
  pub twos_many : length t.deepest_two ≡ t.agents * t.columns
  pub parents : All (IsEntry t.sets) t.parents
  pub ones : All (IsEntry t.sets) t.deepest_one
  pub twos : All (IsEntry t.sets) t.deepest_two

-- the parent that the tables give to set s, for s from 1 on
abbrev pub parent_at : TreesValue → ℕ → Option ℕ
parent_at t s = slice_index_or t.parents (s - 1) None

-- the deepest set of a side that the tables give at a cell
abbrev pub deepest_at : TreesValue → ℕ → Cell → Option ℕ
deepest_at t side c = slice_index_or (if side == 1 then t.deepest_one else t.deepest_two) (cell_index t.columns c) None

-- t are the trees of the family: no two sets of one side cross, and each entry is right
pub record AreTreesOf (f : FamilyValue) (t : TreesValue) : Type 0 where
  pub apart : IsBihierarchy f
  pub sets : t.sets ≡ length f.sets
  pub agents : t.agents ≡ f.agents
  pub columns : t.columns ≡ f.columns
  pub parents : (s : ℕ) → IsSet f s → MatchOption (parent_at t s) (HasNoParent f s) (IsParent f s)
  pub deepest : (side : ℕ) (c : Cell) → (side ≡ 1) ⊎ (side ≡ 2) → IsCellWithin f.agents f.columns c
      → MatchOption (deepest_at t side c) ((u : ℕ) → IsHolder f side c u → ⊥) (IsDeepest f side c)

-- a set, its parent, and so on up, at most so many
unfoldable pub climb : List (Option ℕ) → ℕ → Option ℕ → List ℕ
climb parents zero o = []
climb parents (suc k) None = []
climb parents (suc k) (Some s) = s ∷ climb parents k (slice_index_or parents (s - 1) None)

-- a set, its parent, and so on up, as far as there are parents
unfoldable pub chain_of : TreesValue → Option ℕ → List ℕ
chain_of t o = climb t.parents t.sets o
