-- Planes of bits: lists of words of 64 bits, the lowest bit first.
use Rattle.std.specs.Prelude.{◌≡◌, ℕ, ◌/◌, ◌%◌, List, slice_index, sum_by, count_ones}
use Rattle.std.specs.Int.{bit_at}

-- bit k of a plane, 0 or 1, and 0 past its end
abbrev pub bit_of : List ℕ → ℕ → ℕ
bit_of plane k = bit_at (slice_index plane (k / 64)) (k % 64)

-- some bit is set in both
abbrev pub Overlap : List ℕ → List ℕ → Type 0
Overlap a b = (k : ℕ) × (bit_of a k ≡ 1) × (bit_of b k ≡ 1)

-- each bit of a is set in b
abbrev pub IsWithin : List ℕ → List ℕ → Type 0
IsWithin a b = (k : ℕ) → bit_of a k ≡ 1 → bit_of b k ≡ 1

-- how many bits are set
abbrev pub ones_in : List ℕ → ℕ
ones_in plane = sum_by count_ones plane
