-- What tickets name. The project's own.
use Rattle.std.specs.Prelude.{◌≡◌, ℕ, ◌*◌, ◌==◌, List, length, sum, count_by, slice_index}
use Rattle.std.specs.List.{range_with_len}
use Rattle.definitions.specs.declared.Cell.{Cell}
use Rattle.definitions.specs.Sets.{IsCellWithin, unit_at}
use Rattle.definitions.specs.Values.{PieceValue}
use Rattle.definitions.specs.Pieces.{Decomposes, weighted_pieces}
use Rattle.definitions.specs.Tickets.{piece_of, named_units}

-- of the tickets below the sum of the weights as many as weight k name piece k, from 0
abbrev pub TicketsCountPieces : Type 0
TicketsCountPieces = (weights : List ℕ) (k : ℕ)
    → count_by (λ t. piece_of weights t == k) (range_with_len 0 (sum weights)) ≡ slice_index weights k

-- where pieces decompose the matrix x, the named units of a cell are the units of x there
abbrev pub NamedUnitsAreUnits : Type 0
NamedUnitsAreUnits = (agents columns d : ℕ) (sets : List (List Cell)) (x : List ℕ)
    (ps : List PieceValue) (c : Cell) → length x ≡ agents * columns
    → Decomposes columns sets x d (weighted_pieces agents columns ps)
    → IsCellWithin agents columns c → named_units ps c ≡ unit_at columns x c
