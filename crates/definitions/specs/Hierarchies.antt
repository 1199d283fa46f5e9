-- The two trees of a bihierarchy: which set stands next above another, and which is the deepest at a cell.
-- Hierarchies: Budish, Che, Kojima and Milgrom 2013. The rules for equal and for empty sets are the project's.
use Rattle.std.specs.Prelude.{◌≡◌, ℕ, ◌<◌, ◌⊎◌, IsTrue}
use Rattle.definitions.specs.declared.Cell.{Cell}
use Rattle.definitions.specs.Sets.{holds, is_subset, FamilyValue, IsSet, set_cells, set_size, set_side}

-- s comes before t, by size and then number
abbrev pub IsLower : FamilyValue → ℕ → ℕ → Type 0
IsLower f s t = (set_size f s < set_size f t) ⊎ ((set_size f s ≡ set_size f t) × (s < t))

-- t is another set of s's side that contains s, and is larger, or equals it and has a higher number
pub record IsAbove (f : FamilyValue) (s t : ℕ) : Type 0 where
  pub known : IsSet f t
  pub sides : set_side f s ≡ set_side f t
  pub contains : IsTrue (is_subset (set_cells f s) (set_cells f t))
  pub beyond : (set_size f s < set_size f t) ⊎ (IsTrue (is_subset (set_cells f t) (set_cells f s)) × (s < t))

-- p is the parent of s: s isn't empty, and p is the least set above it
pub record IsParent (f : FamilyValue) (s p : ℕ) : Type 0 where
  pub filled : 0 < set_size f s
  pub above : IsAbove f s p
  pub least : (t : ℕ) → IsAbove f s t → (t ≡ p) ⊎ IsLower f p t

-- s is empty, or nothing is above it
abbrev pub HasNoParent : FamilyValue → ℕ → Type 0
HasNoParent f s = (set_size f s ≡ 0) ⊎ ((t : ℕ) → IsAbove f s t → ⊥)

-- s is a set of this side that holds the cell
abbrev pub IsHolder : FamilyValue → ℕ → Cell → ℕ → Type 0
IsHolder f side c s = IsSet f s × (set_side f s ≡ side) × IsTrue (holds (set_cells f s) c)

-- t is the least set of this side that holds the cell
pub record IsDeepest (f : FamilyValue) (side : ℕ) (c : Cell) (t : ℕ) : Type 0 where
  pub known : IsSet f t
  pub sides : set_side f t ≡ side
  pub holds : IsTrue (holds (set_cells f t) c)
  pub least : (u : ℕ) → IsHolder f side c u → (u ≡ t) ⊎ IsLower f t u
