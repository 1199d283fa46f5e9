-- What contracts say of numbers under construction.
use Rattle.std.specs.Prelude.{◌≡◌, ◌<◌, ◌||◌, ◌&&◌, ℕ, true, List, nat_lt}
use Rattle.std.specs.List.Sorted.{IsStrictlySortedBy}
use Rattle.std.specs.Ordering.{nat_cmp}
use Rattle.plane_kernel.specs.Bits.{bit_of}
use Rattle.alloc_input.specs.Cells.{has_number, distinct_below}

-- numbers below n, each once, in rising order
abbrev pub AreNumbersBelow : ℕ → List ℕ → Type 0
AreNumbersBelow n xs = xs ≡ distinct_below n xs

-- the new numbers are the old ones and those of some others that are below n
abbrev pub AddsNumbers : ℕ → List ℕ → List ℕ → List ℕ → Type 0
AddsNumbers n numbers old new = (j : ℕ) → has_number new j ≡ (has_number old j || (nat_lt j n && has_number numbers j))

-- the numbers of the bits that are set in a plane are among these
abbrev pub AreAmong : List ℕ → List ℕ → Type 0
AreAmong numbers plane = (j : ℕ) → bit_of plane j ≡ 1 → has_number numbers j ≡ true

-- the bit of each of some numbers that is below n is set in a plane
abbrev pub AreSetIn : ℕ → List ℕ → List ℕ → Type 0
AreSetIn n numbers plane = (j : ℕ) → j < n → has_number numbers j ≡ true → bit_of plane j ≡ 1

-- each number is below the next
abbrev pub IsRising : List ℕ → Type 0
IsRising xs = IsStrictlySortedBy nat_cmp xs
