-- The sets of a family and which of them cross, as a graph. Sets are named by their indexes, from 0.
use Rattle.std.specs.Prelude.{◌≡◌, ℕ, ◌+◌, ◌*◌, ◌/◌, ◌%◌, ◌<◌, ◌≤◌, ◌&&◌, Bool, not, List, [], IsTrue, All, length, slice_index_or}
use Rattle.definitions.specs.declared.Cell.{Cell}
use Rattle.definitions.specs.Sets.{cells_at, crosses}
use Rattle.side_finder.specs.declared.overlaps.Overlap.{Overlap}
use Rattle.side_finder.specs.Blocks.{has_bit, no_overlap}

-- so many sets, and for each block of 64 sets what its sets are to each set
pub record GraphValue : Type 0 where
  pub size : ℕ
  pub rows : List (List Overlap)

-- what the sets of a block are to the set with index a
abbrev pub overlap_at : List (List Overlap) → ℕ → ℕ → Overlap
overlap_at rows block a = slice_index_or (slice_index_or rows block []) a no_overlap

-- whether the two cross
unfoldable pub joined : GraphValue → ℕ → ℕ → Bool
joined g a b =
    has_bit (overlap_at g.rows (b / 64) a).sharing (b % 64)
    && (not (has_bit (overlap_at g.rows (b / 64) a).containing (b % 64)) && not (has_bit (overlap_at g.rows (a / 64) b).containing (a % 64)))

-- the two cross
abbrev pub Joined : GraphValue → ℕ → ℕ → Type 0
Joined g a b = IsTrue (joined g a b)

-- which sets cross doesn't depend on the order of the two, and there are at most 2,000
pub record IsCrossingGraph (g : GraphValue) : Type 0 where
  pub few : g.size ≤ 2000
  pub turned : (a b : ℕ) → a < g.size → b < g.size → Joined g a b → Joined g b a

-- the graph is that of these sets
pub record IsGraphOf (sets : List (List Cell)) (g : GraphValue) : Type 0 where
  pub many : g.size ≡ length sets
  pub right : (a b : ℕ) → a < g.size → b < g.size → joined g a b ≡ crosses (cells_at sets (a + 1)) (cells_at sets (b + 1))

-- there is a row for each 64 sets, with an entry for each set
pub record AreRows (sets : ℕ) (rows : List (List Overlap)) : Type 0 where
  pub many : sets ≤ 64 * length rows
  pub wide : All (λ row. length row ≡ sets) rows
