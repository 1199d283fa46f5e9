-- The bits that say which of 64 sets hold a cell, share a cell with a set, or contain it. Bit k of block b is the set with
-- the number 64 b + k + 1.
use Rattle.std.specs.Prelude.{◌≡◌, ℕ, ◌+◌, ◌*◌, ◌<◌, ◌||◌, ◌&&◌, ◌==◌, Bool, List, length, take, slice_index, slice_index_or, nat_lt}
use Rattle.std.specs.Int.{bit_at}
use Rattle.definitions.specs.declared.Cell.{Cell}
use Rattle.definitions.specs.Sets.{FamilyValue, IsCellWithin, cell_index, holds, is_subset, overlaps, set_cells}
use Rattle.side_finder.specs.declared.overlaps.Overlap.{Overlap}

-- whether a bit of a word is set
abbrev pub has_bit : ℕ → ℕ → Bool
has_bit word k = bit_at word k == 1

-- one word for each cell, row by row, whose first bits say which of the block's sets hold it; the other bits aren't set
pub record AreHolders (f : FamilyValue) (block bits : ℕ) (words : List ℕ) : Type 0 where
  pub many : length words ≡ f.agents * f.columns
  pub right : (c : Cell) (k : ℕ) → IsCellWithin f.agents f.columns c → k < 64
      → has_bit (slice_index words (cell_index f.columns c)) k ≡ (nat_lt k bits && holds (set_cells f (64 * block + k + 1)) c)

-- the words before and after a set's bit was entered at the first so many of its cells
pub record AreEntered (f : FamilyValue) (s bit count : ℕ) (old words : List ℕ) : Type 0 where
  pub many : length words ≡ length old
  pub right : (c : Cell) (k : ℕ) → IsCellWithin f.agents f.columns c → k < 64
      → has_bit (slice_index words (cell_index f.columns c)) k
      ≡ (has_bit (slice_index old (cell_index f.columns c)) k || ((k == bit) && holds (take count (set_cells f s)) c))

-- what the sets of a block are to no set
abbrev pub no_overlap : Overlap
no_overlap = record { sharing = 0; containing = 0 }

-- what the sets of a block are to the set with this number
pub record IsOverlap (f : FamilyValue) (block s : ℕ) (o : Overlap) : Type 0 where
  pub sharing : (k : ℕ) → k < 64 → has_bit o.sharing k ≡ overlaps (set_cells f s) (set_cells f (64 * block + k + 1))
  pub containing : (k : ℕ) → k < 64 → has_bit o.containing k ≡ is_subset (set_cells f s) (set_cells f (64 * block + k + 1))

-- what the sets of a block are to the sets with numbers up to one
pub record AreOverlaps (f : FamilyValue) (block count : ℕ) (row : List Overlap) : Type 0 where
  pub many : length row ≡ count
  pub right : (a : ℕ) → a < count → IsOverlap f block (a + 1) (slice_index_or row a no_overlap)
