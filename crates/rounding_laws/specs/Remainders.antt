-- What the remainder keeps when a piece is taken off with the greatest weight. The project's own.
use Rattle.std.specs.Prelude.{◌≡◌, ◌≢◌, ℕ, ◌+◌, ◌*◌, ◌<◌, ◌≤◌, ◌⊎◌, List, length, Some, slice_get, slice_index, All}
use Rattle.definitions.specs.declared.Cell.{Cell}
use Rattle.definitions.specs.Sets.{set_sum, unit_at}
use Rattle.definitions.specs.Rounding.{Rounds, Allows, fractional_count, gap}

-- each cell and set allows the weight w of the piece m
pub record AllAllow (columns : ℕ) (sets : List (List Cell)) (y : List ℕ) (d : ℕ)
    (m : List ℕ) (w : ℕ) : Type 0 where
  pub cells : (i : ℕ) → i < length y → Allows (slice_index y i) d (slice_index m i) w
  pub sums :
      All (λ s. Allows (set_sum (unit_at columns y) s) d (set_sum (unit_at columns m) s) w) sets

-- the piece m rounds y over d and is taken off with the greatest weight that each cell and set allows, w, which leaves y' over d'
pub record IsGreatestTake (columns : ℕ) (sets : List (List Cell)) (y : List ℕ) (d : ℕ)
    (m : List ℕ) (w : ℕ) (y' : List ℕ) (d' : ℕ) : Type 0 where
  pub rounds : Rounds columns sets y d m
  pub shape : length y' ≡ length y
  pub left : d' + w ≡ d
  pub rest : (i : ℕ) → i < length y → slice_index y' i + w * slice_index m i ≡ slice_index y i
  pub allowed : AllAllow columns sets y d m w
  pub greatest : (v : ℕ) → v ≤ d → AllAllow columns sets y d m v → v ≤ w

-- a weight of w is tight: at some cell or set the gap and the weight make up all that is left
abbrev pub IsTight : ℕ → List (List Cell) → List ℕ → ℕ → List ℕ → ℕ → Type 0
IsTight columns sets y d m w =
    ((i : ℕ) × (i < length y) × (gap (slice_index m i) (slice_index y i) d + w ≡ d))
    ⊎ ((k : ℕ) × (s : List Cell) × (slice_get sets k ≡ Some s)
    × (gap (set_sum (unit_at columns m) s) (set_sum (unit_at columns y) s) d + w ≡ d))

-- what rounds the remainder rounds the matrix, and is another matrix than the piece
abbrev pub RemainderRoundsWhole : Type 0
RemainderRoundsWhole = (columns d w d' : ℕ) (sets : List (List Cell)) (y m y' m' : List ℕ)
    → IsGreatestTake columns sets y d m w y' d' → 1 ≤ d'
    → Rounds columns sets y' d' m' → Rounds columns sets y d m' × (m' ≢ m)

-- the remainder has fewer fractional cells and sets
abbrev pub FractionalCountFalls : Type 0
FractionalCountFalls = (columns d w d' : ℕ) (sets : List (List Cell)) (y m y' : List ℕ)
    → IsGreatestTake columns sets y d m w y' d' → 1 ≤ d'
    → fractional_count columns sets y' d' < fractional_count columns sets y d
