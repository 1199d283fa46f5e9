-- What gives give at a place of their matrix.
use Rattle.std.proofs.Common.{◌≡◌, ℕ, ◌+◌, ◌*◌, ◌<◌, List, length, get_or, ap, ◌∙◌, arith}
use Rattle.std.proofs.lemmas.List.{get_or-map}
use Rattle.definitions.specs.declared.Give.{Give}
use Rattle.definitions.specs.Sets.{cell_of, all_cells}
use Rattle.definitions.specs.Pieces.{piece_count, matrix_of}
use Rattle.definitions.proofs.Cells.{cell_in_place, cell_count, index_within}

-- the matrix of gives has at a cell's index how much they give there
pub matrix_at : (agents columns : ℕ) (gives : List Give) (i a : ℕ) → i < agents → a < columns → get_or (matrix_of agents columns gives) (i * columns + a) 0 ≡ piece_count gives (cell_of i a)
matrix_at agents columns gives i a h l =
    let short : i * columns + a < length (all_cells agents columns) = omega (arith, cell_count agents columns, index_within agents columns i a h l) in
    get_or-map (piece_count gives) (all_cells agents columns) (i * columns + a) (cell_of i a) 0 short
    ∙ ap (piece_count gives) (cell_in_place agents columns i a (cell_of i a) h l)
