-- Whole matrices that round an expected one at every cell and set.
-- Rounding at every set of a bihierarchy: Budish, Che, Kojima and Milgrom 2013. The count of fractional cells and sets
-- is the project's. A matrix is a list with one number for each cell, row by row.
use Rattle.std.specs.Prelude.{◌≡◌, ℕ, ◌+◌, ◌-◌, ◌*◌, ◌/◌, ◌%◌, ◌<◌, ◌≤◌, ◌⊎◌, ◌==◌, Bool, not, List, length, slice_index, All, count_by}
use Rattle.definitions.specs.declared.Cell.{Cell}
use Rattle.definitions.specs.Sets.{set_sum, unit_at}

-- a set as a rounding sees it: its side and its cells
pub record SideSet : Type 0 where
  pub side : ℕ
  pub cells : List Cell

-- m is y over d, rounded down or up
abbrev pub IsRounded : ℕ → ℕ → ℕ → Type 0
IsRounded y d m = (m ≡ y / d) ⊎ (m ≡ (y + d - 1) / d)

-- m rounds y over d: at each cell, and in sum over each set, it is y over d rounded down or up
pub record Rounds (columns : ℕ) (sets : List (List Cell)) (y : List ℕ) (d : ℕ) (m : List ℕ) : Type 0 where
  pub shape : length m ≡ length y
  pub cells : (i : ℕ) → i < length y → IsRounded (slice_index y i) d (slice_index m i)
  pub sums : All (λ s. IsRounded (set_sum (unit_at columns y) s) d (set_sum (unit_at columns m) s)) sets

-- y is no multiple of d
abbrev pub is_fractional : ℕ → ℕ → Bool
is_fractional d y = not (y % d == 0)

-- how many cells and sets have a sum that is no multiple of d
abbrev pub fractional_count : ℕ → List (List Cell) → List ℕ → ℕ → ℕ
fractional_count columns sets y d =
    count_by (is_fractional d) y + count_by (λ s. is_fractional d (set_sum (unit_at columns y) s)) sets

-- the distance of y from d times m
abbrev pub gap : ℕ → ℕ → ℕ → ℕ
gap m y d = (y - d * m) + (d * m - y)

-- the weight w keeps y within its bounds: what is left of y after w times m lies, over d - w, between y over d rounded down and up
pub record Allows (y d m w : ℕ) : Type 0 where
  pub low : w * m + (y / d) * (d - w) ≤ y
  pub high : y ≤ w * m + ((y + d - 1) / d) * (d - w)
