-- What stands in the records of a lottery, kind by kind.
use Rattle.std.specs.Prelude.{◌-◌, ℕ, ℤ, List, [], ◌∷◌, length, map, drop, codes, if◌then◌else◌, slice_index_or}
use Rattle.std.specs.List.{before_first}
use Rattle.std.specs.Str.{bytes_eq}
use Rattle.definitions.specs.Texts.{Row, field, number, signed, null_name}
use Rattle.definitions.specs.Values.{PieceValue}
use Rattle.definitions.specs.declared.Give.{Give}
use Rattle.table_text.specs.Records.{begins_with, place_of, records_of}

-- the last record that begins with this word, and one without fields where there is none
abbrev pub last_of : List ℕ → List Row → Row
last_of word rows = slice_index_or (records_of word rows) (length (records_of word rows) - 1) []

-- the names of the agents: what follows the word in the last such record
abbrev pub agents_in : List Row → List (List ℕ)
agents_in rows = drop 1 (last_of (codes "agents") rows)

-- the names of the columns
abbrev pub columns_in : List Row → List (List ℕ)
columns_in rows = drop 1 (last_of (codes "objects") rows)

-- the give that a record says
abbrev pub give_in : List (List ℕ) → List (List ℕ) → Row → Give
give_in agents columns r = record { agent = place_of agents (field r 1); object = place_of columns (field r 2); count = number (field r 3) }

-- the gives that records say up to the next piece
abbrev pub gives_in : List (List ℕ) → List (List ℕ) → List Row → List Give
gives_in agents columns rows = map (give_in agents columns) (records_of (codes "give") (before_first (begins_with (codes "piece")) rows))

-- the pieces that these records say, each with the gives up to the next one
abbrev pub pieces_along : List (List ℕ) → List (List ℕ) → List Row → List PieceValue
pieces_along agents columns [] = []
pieces_along agents columns (r ∷ rs) =
    if begins_with (codes "piece") r then (record { weight = number (field r 2); gives = gives_in agents columns rs }) ∷ pieces_along agents columns rs
    else pieces_along agents columns rs

-- the pieces of all records
abbrev pub pieces_in : List Row → List PieceValue
pieces_in rows = pieces_along (agents_in rows) (columns_in rows) rows

-- the first of these lists, with one more record in front
abbrev pub onto_first : Row → List (List Row) → List (List Row)
onto_first r [] = (r ∷ []) ∷ []
onto_first r (rs ∷ rest) = (r ∷ rs) ∷ rest

-- the records of places, cut after each place of `none`
abbrev pub cut_lists : List Row → List (List Row)
cut_lists [] = []
cut_lists (r ∷ rs) = if bytes_eq (field r 2) null_name then (r ∷ []) ∷ cut_lists rs else onto_first r (cut_lists rs)

-- the columns of all lists
abbrev pub lists_in : List Row → List (List ℕ)
lists_in rows = map (λ rs. map (λ r. place_of (columns_in rows) (field r 2)) rs) (cut_lists (records_of (codes "worth") rows))

-- the worths of all lists
abbrev pub worths_in : List Row → List (List ℤ)
worths_in rows = map (λ rs. map (λ r. signed (field r 3)) rs) (cut_lists (records_of (codes "worth") rows))
