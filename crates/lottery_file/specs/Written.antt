-- The records that a lottery is written as, and its text.
use Rattle.std.specs.Prelude.{◌≡◌, ℕ, ℤ, ◌+◌, ◌*◌, List, [], ◌∷◌, ◌++◌, Option, Some, None, IfSome, length, map, take, drop, codes, slice_index_or}
use Rattle.std.specs.List.{AllZip}
use Rattle.std.specs.Fmt.{decimal, signed_decimal}
use Rattle.definitions.specs.Gives.{gives_of}
use Rattle.definitions.specs.Lotteries.{LotteryValue, matrices_of}
use Rattle.definitions.specs.Pieces.{WeightedMatrix}
use Rattle.definitions.specs.Sets.{ScaledValue}
use Rattle.definitions.specs.Texts.{Row}
use Rattle.definitions.specs.Values.{PieceValue, PricesValue}
use Rattle.definitions.specs.declared.Give.{Give}
use Rattle.table_text.specs.Rows.{rows_text}

-- a list for each agent, and a worth for each of its places
pub record AreListed (agents : ℕ) (lists : List (List ℕ)) (worths : List (List ℤ)) : Type 0 where
  pub many : length lists ≡ agents
  pub places : AllZip (λ list worth. length worth ≡ length list) lists worths

-- the shares have a row for each agent and a column for each column, and prices come with lists
pub record ShapesAgree (agents columns : List (List ℕ)) (shares : ScaledValue) (lists : List (List ℕ)) (prices : Option PricesValue) : Type 0 where
  pub row_each : shares.agents ≡ length agents
  pub unit_each : shares.columns ≡ length columns
  pub listed : IfSome prices (λ y. AreListed (length agents) lists y.worth)

-- the shapes of a lottery agree, so that it can be written
abbrev pub CanBeWritten : LotteryValue → Type 0
CanBeWritten l = ShapesAgree l.agents l.columns l.shares l.lists l.prices

-- the units of the agent with this number, by its name
abbrev pub share_row : List ℕ → ℕ → ScaledValue → Row
share_row name agent x = codes "row" ∷ name ∷ map decimal (take x.columns (drop (agent * x.columns) x.units))

-- for each agent its units of every column, of which there are so many
abbrev pub share_rows : List (List ℕ) → ℕ → List ℕ → List Row
share_rows [] columns units = []
share_rows (agent ∷ agents) columns units =
    (codes "row" ∷ agent ∷ map decimal (take columns units)) ∷ share_rows agents columns (drop columns units)

-- the prices of the sets from this number on
abbrev pub price_rows : ℕ → List ℕ → List Row
price_rows set [] = []
price_rows set (price ∷ prices) = (codes "price" ∷ decimal set ∷ decimal price ∷ []) ∷ price_rows (set + 1) prices

-- the worth of a place of an agent's list, by the name of its column
abbrev pub worth_row : List ℕ → List ℕ → ℤ → Row
worth_row agent column worth = codes "worth" ∷ agent ∷ column ∷ signed_decimal worth ∷ []

-- the worth of each place of an agent's list
abbrev pub place_rows : List ℕ → List (List ℕ) → List ℕ → List ℤ → List Row
place_rows agent columns (column ∷ list) (worth ∷ worths) =
    worth_row agent (slice_index_or columns column []) worth ∷ place_rows agent columns list worths
place_rows agent columns list worths = []

-- the worths of all lists, agent by agent
abbrev pub worth_rows : List (List ℕ) → List (List ℕ) → List (List ℕ) → List (List ℤ) → List Row
worth_rows (agent ∷ agents) columns (list ∷ lists) (worths ∷ rest) = place_rows agent columns list worths ++ worth_rows agents columns lists rest
worth_rows agents columns lists rest = []

-- prices and worths, where there are some
abbrev pub priced_rows : List (List ℕ) → List (List ℕ) → List (List ℕ) → Option PricesValue → List Row
priced_rows agents columns lists None = []
priced_rows agents columns lists (Some y) = price_rows 1 y.price ++ worth_rows agents columns lists y.worth

-- the version, the denominator, and the names of agents and columns
unfoldable pub name_rows : ℕ → List (List ℕ) → List (List ℕ) → List Row
name_rows denominator agents columns =
    (codes "lottery" ∷ codes "1" ∷ [])
    ∷ (codes "denominator" ∷ decimal denominator ∷ [])
    ∷ (codes "agents" ∷ agents)
    ∷ (codes "objects" ∷ columns) ∷ []

-- the records before the first piece
unfoldable pub head_rows : List (List ℕ) → List (List ℕ) → ScaledValue → List (List ℕ) → Option PricesValue → List Row
head_rows agents columns shares lists prices =
    name_rows shares.denominator agents columns
    ++ (share_rows agents (length columns) shares.units ++ priced_rows agents columns lists prices)

abbrev pub piece_row : ℕ → ℕ → Row
piece_row piece_no weight = codes "piece" ∷ decimal piece_no ∷ decimal weight ∷ []

-- a give, by the names of its agent and its column
abbrev pub give_row : List (List ℕ) → List (List ℕ) → Give → Row
give_row agents columns g = codes "give" ∷ slice_index_or agents g.agent [] ∷ slice_index_or columns g.object [] ∷ decimal g.count ∷ []

-- a piece with this number, then its gives
unfoldable pub piece_rows : List (List ℕ) → List (List ℕ) → ℕ → PieceValue → List Row
piece_rows agents columns piece_no p = piece_row piece_no p.weight ∷ map (give_row agents columns) p.gives

-- the pieces from this number on
unfoldable pub pieces_rows : List (List ℕ) → List (List ℕ) → ℕ → List PieceValue → List Row
pieces_rows agents columns piece_no [] = []
pieces_rows agents columns piece_no (p ∷ ps) = piece_rows agents columns piece_no p ++ pieces_rows agents columns (piece_no + 1) ps

-- the last record, with the number of pieces
unfoldable pub end_row : ℕ → Row
end_row pieces = codes "end" ∷ decimal pieces ∷ []

-- the records of a lottery of version 1
abbrev pub rows_of : LotteryValue → List Row
rows_of l = head_rows l.agents l.columns l.shares l.lists l.prices ++ (pieces_rows l.agents l.columns 1 l.pieces ++ end_row (length l.pieces) ∷ [])

-- the text of a lottery of version 1
abbrev pub lottery_text : LotteryValue → List ℕ
lottery_text l = rows_text (rows_of l)

-- the text of the piece with this number, by its counts at the cells, row by row
abbrev pub piece_text : List (List ℕ) → List (List ℕ) → ℕ → ℕ → List ℕ → List ℕ
piece_text agents columns number weight counts =
    rows_text (piece_rows agents columns number (record { weight = weight; gives = gives_of (length columns) counts }))

-- what `write_piece` appends of one piece after the other, with the numbers from this one on: the counts of a piece are those of
-- its matrix
unfoldable pub pieces_written : List (List ℕ) → List (List ℕ) → ℕ → List WeightedMatrix → List ℕ
pieces_written agents columns number [] = []
pieces_written agents columns number (p ∷ ps) =
    piece_text agents columns number p.weight p.matrix ++ pieces_written agents columns (number + 1) ps

-- what `write_head`, then `write_piece` of each piece and then `write_end` append
abbrev pub parts_text : LotteryValue → List ℕ
parts_text l =
    rows_text (head_rows l.agents l.columns l.shares l.lists l.prices)
    ++ (pieces_written l.agents l.columns 1 (matrices_of l) ++ rows_text (end_row (length l.pieces) ∷ []))
