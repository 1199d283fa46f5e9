-- A whole matrix as the gives of a piece: the way back from `matrix_of`.
use Rattle.std.specs.Prelude.{ℕ, suc, ◌/◌, ◌%◌, ◌==◌, List, [], ◌∷◌, map, if◌then◌else◌}
use Rattle.definitions.specs.declared.Give.{Give}
use Rattle.definitions.specs.Values.{PieceValue}
use Rattle.definitions.specs.Pieces.{WeightedMatrix}

-- the counts above 0 of these entries of a matrix, the first of which stands at this index
unfoldable pub gives_along : ℕ → ℕ → List ℕ → List Give
gives_along columns at [] = []
gives_along columns at (n ∷ ns) =
    if n == 0 then gives_along columns (suc at) ns
    else (record { agent = at / columns; object = at % columns; count = n }) ∷ gives_along columns (suc at) ns

-- the counts above 0 of a whole matrix, by agent and then column
abbrev pub gives_of : ℕ → List ℕ → List Give
gives_of columns m = gives_along columns 0 m

-- a matrix as a piece
abbrev pub piece_of_matrix : ℕ → WeightedMatrix → PieceValue
piece_of_matrix columns p = record { weight = p.weight; gives = gives_of columns p.matrix }

-- matrices as pieces
abbrev pub pieces_of : ℕ → List WeightedMatrix → List PieceValue
pieces_of columns ps = map (piece_of_matrix columns) ps
