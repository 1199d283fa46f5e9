-- Crossing sets of one side, and the least pair of them.
use Rattle.std.specs.Prelude.{◌≡◌, ℕ, ◌<◌, ◌≤◌, ◌⊎◌, length}
use Rattle.definitions.specs.Sets.{FamilyValue, IsSet, set_side, cells_of, Cross}
use Rattle.bihierarchy.specs.declared.trees.TreesFault.{TreesFault}
use Rattle.bihierarchy.specs.declared.trees.TreesFault.TheVariants.{Crossing, NoMemory}

-- sets s and t are of one side and cross
abbrev pub CrossOnOneSide : FamilyValue → ℕ → ℕ → Type 0
CrossOnOneSide f s t = (set_side f s ≡ set_side f t) × Cross (cells_of f) s t

-- no set with a higher number crosses s on its side
abbrev pub CrossesNoneAfter : FamilyValue → ℕ → Type 0
CrossesNoneAfter f s = (t : ℕ) → IsSet f t → s < t → CrossOnOneSide f s t → ⊥

-- t is the least set with a higher number that crosses s on its side
pub record IsFirstCrossed (f : FamilyValue) (s t : ℕ) : Type 0 where
  pub known : IsSet f t
  pub order : s < t
  pub cross : CrossOnOneSide f s t
  pub least : (u : ℕ) → IsSet f u → s < u → CrossOnOneSide f s u → t ≤ u

-- the two are sets of one side that cross, and no other such pair comes before them, by first and then second
pub record IsLeastCrossing (f : FamilyValue) (first second : ℕ) : Type 0 where
  pub known : 0 < first
  pub order : first < second
  pub within : second ≤ length f.sets
  pub sides : set_side f first ≡ set_side f second
  pub cross : Cross (cells_of f) first second
  pub least : (s t : ℕ) → IsSet f s → IsSet f t → s < t → CrossOnOneSide f s t
      → (first < s) ⊎ ((first ≡ s) × (second ≤ t))

-- the fault names the least crossing pair, or it is want of memory
abbrev pub IsCrossingFault : FamilyValue → TreesFault → Type 0
IsCrossingFault f (Crossing first second) = IsLeastCrossing f first second
IsCrossingFault f NoMemory = Unit {0}
