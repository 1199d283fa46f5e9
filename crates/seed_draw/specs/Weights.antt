-- The weights of pieces.
use Rattle.std.specs.Prelude.{ℕ, List, map}
use Rattle.definitions.specs.declared.Piece.{Piece}

-- the weight of each piece
abbrev pub weights_of : List Piece → List ℕ
weights_of pieces = map (λ p. p.weight) pieces
