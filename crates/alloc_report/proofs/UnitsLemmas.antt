-- The units of a column are part of those of the whole matrix, so that their sum fits.
use Rattle.std.proofs.Common.{◌≡◌, ℕ, suc, zero, ◌+◌, ◌<◌, ◌≤◌, ◌^◌, length, map, ap, arith}
use Rattle.std.specs.Prelude.{flat_map, sum_by}
use Rattle.std.specs.List.{range_with_len}
use Rattle.std.proofs.lemmas.List.FromFn.{get_or-map-range_with_len, length-map-range_with_len, take-map-range_with_len}
use Rattle.std.proofs.lemmas.List.Sums.{sum_by-append, sum_by-cons, sum_by_more_le}
use Rattle.definitions.proofs.Sums.{sum_of_units}
use Rattle.definitions.specs.Sets.{IsScaledMatrix, ScaledValue, cell_of, row_cells, set_sum, units_of}
use Rattle.alloc_report.specs.Summary.{column_cells}

-- a cell is part of its row
in_row : (x : ScaledValue) (a i : ℕ) → a < x.columns → units_of x (cell_of i a) ≤ set_sum (units_of x) (row_cells x.columns i)
in_row x a i inside =
    let many : length (row_cells x.columns i) ≡ x.columns = length-map-range_with_len (cell_of i) 0 x.columns in
    let place : a < length (row_cells x.columns i) = omega arith in
    let here = ap (units_of x) (get_or-map-range_with_len (cell_of i) 0 x.columns a a (cell_of 0 0) inside (omega arith)) in
    omega (arith, here, sum_by_more_le (units_of x) (row_cells x.columns i) a (cell_of 0 0) place)

-- the column of some agents is part of their rows
in_rows : (x : ScaledValue) (a s n : ℕ) → a < x.columns
    → sum_by (units_of x) (map (λ i. cell_of i a) (range_with_len s n)) ≤ sum_by (units_of x) (flat_map (row_cells x.columns) (range_with_len s n))
in_rows x a s zero inside = omega arith
in_rows x a s (suc n) inside =
    omega (
      arith,
      sum_by-cons (units_of x) (cell_of s a) (map (λ i. cell_of i a) (range_with_len (s + 1) n)),
      sum_by-append (units_of x) (row_cells x.columns s) (flat_map (row_cells x.columns) (range_with_len (s + 1) n)),
      in_row x a s inside,
      in_rows x a (s + 1) n inside,
    )

-- the units of a column's first agents fit, with those of the next one
pub column_fits : (x : ScaledValue) (a i : ℕ) → IsScaledMatrix x → a < x.columns → i < x.agents
    → set_sum (units_of x) (column_cells i a) + units_of x (cell_of i a) < 2 ^ 128
column_fits x a i matrix inside within =
    let cells = column_cells x.agents a in
    let many : length cells ≡ x.agents = length-map-range_with_len (λ k. cell_of k a) 0 x.agents in
    let here : i < length cells = omega arith in
    let first = ap (set_sum (units_of x)) (take-map-range_with_len (λ k. cell_of k a) 0 x.agents i (omega arith)) in
    let next = ap (units_of x) (get_or-map-range_with_len (λ k. cell_of k a) 0 x.agents i i (cell_of 0 0) within (omega arith)) in
    omega (
      arith,
      first,
      next,
      sum_by_more_le (units_of x) cells i (cell_of 0 0) here,
      in_rows x a 0 x.agents inside,
      sum_of_units x.agents x.columns x.units matrix.shape,
      matrix.total,
      matrix.limit,
    )
