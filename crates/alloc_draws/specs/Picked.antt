-- The text of a ticket and of its piece, as each command that draws writes it.
use Rattle.std.specs.Prelude.{ℕ, ◌+◌, List, [], ◌∷◌, ◌++◌, codes, length, map, slice_index_or}
use Rattle.std.specs.Fmt.{decimal}
use Rattle.definitions.specs.Lotteries.{LotteryValue}
use Rattle.definitions.specs.Texts.{Row}
use Rattle.definitions.specs.Tickets.{piece_of}
use Rattle.definitions.specs.Values.{PieceValue}
use Rattle.lottery_file.specs.Written.{piece_rows}
use Rattle.table_text.specs.Rows.{rows_text}

-- the records of a ticket of a lottery and of its piece, which has this number: the ticket and out
-- of how many it is, the piece with its gives, and how many gives
unfoldable pub ticket_rows : LotteryValue → ℕ → ℕ → PieceValue → List Row
ticket_rows l ticket piece_no p =
    (codes "ticket" ∷ decimal ticket ∷ decimal l.shares.denominator ∷ [])
    ∷ (piece_rows l.agents l.columns piece_no p
    ++ (codes "end" ∷ decimal (length p.gives) ∷ []) ∷ [])

-- the place of a ticket's piece in a lottery, from 0
abbrev pub picked_place : LotteryValue → ℕ → ℕ
picked_place l ticket = piece_of (map (λ p. p.weight) l.pieces) ticket

-- the text of the piece that a ticket names
unfoldable pub picked_text : LotteryValue → ℕ → List ℕ
picked_text l ticket =
    rows_text (ticket_rows l ticket (picked_place l ticket + 1)
    (slice_index_or l.pieces (picked_place l ticket) (record { weight = 0; gives = [] })))
