-- What the laws on chains say: a set, its parent, and so on up, in the trees of a lawful family.
use Rattle.std.specs.Prelude.{◌≡◌, ℕ, ◌<◌, ◌⊎◌, ◌↔◌, List, [], ◌∷◌, Some, None, IsTrue, nat_eq}
use Rattle.std.specs.List.{IsDistinct}
use Rattle.std.specs.Set.{is_member}
use Rattle.definitions.specs.declared.Cell.{Cell}
use Rattle.definitions.specs.Sets.{FamilyValue, IsFamily, IsSet, IsCellWithin, set_size}
use Rattle.definitions.specs.Hierarchies.{IsAbove, IsHolder}
use Rattle.definitions.specs.Trees.{TreesValue, AreTreesOf, parent_at, deepest_at, chain_of}

-- the chain of a set is the set and then the chain of its parent, and that of no set is empty
abbrev pub ChainStepsUp : Type 0
ChainStepsUp = (f : FamilyValue) (t : TreesValue) → IsFamily f → AreTreesOf f t
    → ((s : ℕ) → IsSet f s → chain_of t (Some s) ≡ s ∷ chain_of t (parent_at t s))
    × (chain_of t None ≡ [])

-- the chain of the parent of a set has exactly the sets above the set, each once; an empty set has no parent
pub record AreSetsAbove (f : FamilyValue) (s : ℕ) (sets : List ℕ) : Type 0 where
  pub members : (u : ℕ) → IsTrue (is_member nat_eq sets u) ↔ ((0 < set_size f s) × IsAbove f s u)
  pub once : IsDistinct nat_eq sets

abbrev pub ChainIsTheSetsAbove : Type 0
ChainIsTheSetsAbove = (f : FamilyValue) (t : TreesValue) → IsFamily f → AreTreesOf f t
    → (s : ℕ) → IsSet f s → AreSetsAbove f s (chain_of t (parent_at t s))

-- the list has exactly the sets of a side that hold the cell, and each once
pub record AreHolders (f : FamilyValue) (side : ℕ) (c : Cell) (sets : List ℕ) : Type 0 where
  pub members : (s : ℕ) → IsTrue (is_member nat_eq sets s) ↔ IsHolder f side c s
  pub once : IsDistinct nat_eq sets

-- the chain of a cell's deepest set of a side has exactly the sets of that side that hold the cell, and each once
abbrev pub ChainIsTheHolders : Type 0
ChainIsTheHolders = (f : FamilyValue) (t : TreesValue) → IsFamily f → AreTreesOf f t
    → (side : ℕ) (c : Cell) → (side ≡ 1) ⊎ (side ≡ 2) → IsCellWithin f.agents f.columns c
    → AreHolders f side c (chain_of t (deepest_at t side c))
