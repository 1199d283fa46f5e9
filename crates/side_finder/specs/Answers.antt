-- What is said of the sides that are found, or of the ring.
use Rattle.std.specs.Prelude.{◌≡◌, ℕ, List, Bool, true, false}
use Rattle.definitions.specs.declared.Cell.{Cell}
use Rattle.definitions.specs.Sides.{IsColoring, IsSplit}
use Rattle.side_finder.specs.declared.find.Sides.{Sides}
use Rattle.side_finder.specs.declared.find.Sides.TheVariants.{Split, Ring}

-- where there are sides, this is said of them
abbrev pub IfSplit : (List ℕ → Type 0) → Sides → Type 0
IfSplit P (Split sides) = P sides.items
IfSplit P (Ring ring) = Unit {0}

-- where there is a ring, this is said of it
abbrev pub IfRing : (List ℕ → Type 0) → Sides → Type 0
IfRing P (Split sides) = Unit {0}
IfRing P (Ring ring) = P ring.items

-- whether there is a ring
abbrev pub is_ring : Sides → Bool
is_ring (Split sides) = false
is_ring (Ring ring) = true

-- no other sides are a split
abbrev pub IsTheSplit : List (List Cell) → List ℕ → Type 0
IsTheSplit sets sides = (others : List ℕ) → IsSplit sets others → others ≡ sides

-- whatever the sides, two sets of one side cross
abbrev pub HasNoColoring : List (List Cell) → Type 0
HasNoColoring sets = (sides : List ℕ) → IsColoring sets sides → ⊥
