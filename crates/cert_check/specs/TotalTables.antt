-- The weighted sums of pieces at each cell, in rows of 201 places.
use Rattle.std.specs.Prelude.{◌≡◌, ℕ, ◌*◌, ◌<◌, ◌==◌, List, length, slice_index, sum_by, if◌then◌else◌}
use Rattle.definitions.specs.declared.Give.{Give}
use Rattle.definitions.specs.Sets.{cell_index, cell_of}
use Rattle.definitions.specs.Values.{PieceValue}
use Rattle.cert_check.specs.HolderTables.{give_place}
use Rattle.cert_check.specs.PieceFaults.{given_units}

-- the place of agent i's cell in column a
abbrev pub place_at : ℕ → ℕ → ℕ
place_at i a = cell_index 201 (cell_of i a)

-- what gives with a weight bring to a place
abbrev pub weighted_at : ℕ → List Give → ℕ → ℕ
weighted_at weight gives place = sum_by (λ g. if give_place g == place then weight * g.count else 0) gives

-- at the place of each cell stands its weighted sum
pub record AreAllTotals (agents : ℕ) (ps : List PieceValue) (table : List ℕ) : Type 0 where
  pub many : length table ≡ agents * 201
  pub totals : (i a : ℕ) → i < agents → a < 201
      → slice_index table (place_at i a) ≡ given_units ps (cell_of i a)
