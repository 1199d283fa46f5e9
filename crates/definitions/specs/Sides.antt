-- Sides for sets that have none: a colouring of the graph of crossing sets with two colours, or an odd ring.
-- Two-colouring and odd cycles are standard; the choice of side 1 for the least set of each part is the project's.
use Rattle.std.specs.Prelude.{◌≡◌, ℕ, zero, suc, ◌+◌, ◌-◌, ◌%◌, ◌<◌, ◌≤◌, ◌⊎◌, List, length, All, slice_index}
use Rattle.definitions.specs.declared.Cell.{Cell}
use Rattle.definitions.specs.Sets.{Cross, NoCrossing, IsNumberOf}

-- a side for each set, so that no two sets of one side cross
pub record IsColoring (sets : List (List Cell)) (sides : List ℕ) : Type 0 where
  pub many : length sides ≡ length sets
  pub two : All (λ s. (s ≡ 1) ⊎ (s ≡ 2)) sides
  pub apart : NoCrossing sets sides

-- the sets at these indexes, from 0, cross
abbrev pub CrossAt : List (List Cell) → ℕ → ℕ → Type 0
CrossAt sets a b = Cross sets (a + 1) (b + 1)

-- b is reached from a over so many crossing pairs; indexes from 0
abbrev pub Linked : List (List Cell) → ℕ → ℕ → ℕ → Type 0
Linked sets zero a b = a ≡ b
Linked sets (suc k) a b = (c : ℕ) × (c < length sets) × Linked sets k a c × CrossAt sets c b

-- a is the least of all that are reached from it
abbrev pub IsLeastOfPart : List (List Cell) → ℕ → Type 0
IsLeastOfPart sets a = (k b : ℕ) → Linked sets k a b → a ≤ b

-- the colouring in which the least set of each part has side 1
pub record IsSplit (sets : List (List Cell)) (sides : List ℕ) : Type 0 where
  pub coloring : IsColoring sets sides
  pub least_is_one : (a : ℕ) → a < length sets → IsLeastOfPart sets a → slice_index sides a ≡ 1

-- an odd number of sets, at least three, by their numbers: each crosses the next, and the last crosses the first
pub record IsOddRing (sets : List (List Cell)) (ring : List ℕ) : Type 0 where
  pub odd : length ring % 2 ≡ 1
  pub three : 3 ≤ length ring
  pub known : All (IsNumberOf sets) ring
  pub next : (k : ℕ) → k + 1 < length ring → Cross sets (slice_index ring k) (slice_index ring (k + 1))
  pub closed : Cross sets (slice_index ring (length ring - 1)) (slice_index ring 0)
