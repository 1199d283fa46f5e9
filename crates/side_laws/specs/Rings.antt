-- What the law on odd rings says. Two-colouring and odd cycles are standard.
use Rattle.std.specs.Prelude.{◌≡◌, ℕ, ◌-◌, ◌⊎◌, List, length, All, slice_index}
use Rattle.definitions.specs.declared.Cell.{Cell}
use Rattle.definitions.specs.Sets.{Cross, IsNumberOf}
use Rattle.definitions.specs.Sides.{IsColoring, IsOddRing}

-- two sets that cross have one side
pub record LeavesCrossing (sets : List (List Cell)) (sides : List ℕ) : Type 0 where
  pub one : ℕ
  pub other : ℕ
  pub one_known : IsNumberOf sets one
  pub other_known : IsNumberOf sets other
  pub one_side : slice_index sides (one - 1) ≡ slice_index sides (other - 1)
  pub cross : Cross sets one other

-- one side for each set, 1 or 2
abbrev pub AreSidesFor : List (List Cell) → List ℕ → Type 0
AreSidesFor sets sides = (length sides ≡ length sets) × All (λ s. (s ≡ 1) ⊎ (s ≡ 2)) sides

-- where there is an odd ring, each choice of a side for each set leaves two crossing sets on one side; so there is no
-- colouring
abbrev pub OddRingHasNoSides : Type 0
OddRingHasNoSides = (sets : List (List Cell)) (ring : List ℕ) → IsOddRing sets ring
    → ((sides : List ℕ) → AreSidesFor sets sides → LeavesCrossing sets sides)
    × ((sides : List ℕ) → IsColoring sets sides → ⊥)
