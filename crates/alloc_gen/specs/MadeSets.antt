-- The stated sets of a made problem. The project's own rule.
-- Let q be n / m rounded up. Sets 1 to m are the columns with ceiling q. Set m + k holds the cells
-- of s_k with the agents p1, p3, p5 and so on, and has the ceiling max(1, q / 2 rounded down). All
-- have side 2 and floor 0.
-- Below columns and agents count from 0, so that p1, p3, p5 are the agents 0, 2, 4.
use Rattle.std.specs.Prelude.{ℕ, ◌*◌, ◌/◌, List, ◌++◌, map, max}
use Rattle.std.specs.Int.{div_ceil}
use Rattle.std.specs.List.{range_with_len}
use Rattle.definitions.specs.declared.Cell.{Cell}
use Rattle.definitions.specs.Sets.{SetValue, cell_of}

-- so many cells of column k, of the agents 0, step, 2 * step and so on
abbrev pub column_cells : ℕ → ℕ → ℕ → List Cell
column_cells count step k = map (λ i. cell_of (step * i) k) (range_with_len 0 count)

-- q: n / m rounded up
abbrev pub column_ceiling : ℕ → ℕ → ℕ
column_ceiling n m = div_ceil n m

-- the ceiling of a set of every second cell
abbrev pub half_ceiling : ℕ → ℕ → ℕ
half_ceiling n m = max 1 (column_ceiling n m / 2)

-- so many cells of column k as a set
abbrev pub column_part : ℕ → ℕ → ℕ → ℕ → SetValue
column_part count step ceiling k = record {
  side = 2;
  floor = 0;
  ceiling = ceiling;
  cells = column_cells count step k;
}

-- column k as a set
abbrev pub column_set : ℕ → ℕ → ℕ → SetValue
column_set n m k = column_part n 1 (column_ceiling n m) k

-- every second cell of column k as a set, from the first on
abbrev pub half_set : ℕ → ℕ → ℕ → SetValue
half_set n m k = column_part (div_ceil n 2) 2 (half_ceiling n m) k

-- each column, and then every second cell of each column
unfoldable pub made_sets : ℕ → ℕ → List SetValue
made_sets n m =
    map (column_set n m) (range_with_len 0 m) ++ map (half_set n m) (range_with_len 0 m)
