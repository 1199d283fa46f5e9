-- What the records of a lottery say.
use Rattle.std.specs.Prelude.{◌+◌, ◌-◌, ℕ, ℤ, Bool, true, false, List, [], ◌∷◌, ◌++◌, Option, Some, None, map, drop, filter, length, reverse, codes, is_some, slice_index_or, if◌then◌else◌}
use Rattle.std.specs.List.{before_first}
use Rattle.std.specs.Option.{unwrap_or}
use Rattle.std.specs.Str.{bytes_eq}
use Rattle.definitions.specs.Texts.{Row, field, first_field, number, signed, null_name, name_index}
use Rattle.definitions.specs.Values.{PieceValue}
use Rattle.definitions.specs.declared.Give.{Give}
use Rattle.lottery_file.specs.declared.words.Word.{Word}
use Rattle.lottery_file.specs.declared.words.Word.TheVariants as word

-- what the records before one say: of the agent whose list is open, the places so far and their worths
-- stand in `open_list` and `open_worths`
pub record Before : Type 0 where
  pub last : Option Word
  pub denominator : ℕ
  pub agents : List (List ℕ)
  pub columns : List (List ℕ)
  pub rows : ℕ
  pub units : List ℕ
  pub prices : List ℕ
  pub lists : List (List ℕ)
  pub open_list : List ℕ
  pub worths : List (List ℤ)
  pub open_worths : List ℤ
  pub pieces : List PieceValue

-- what no record says
abbrev pub nothing : Before
nothing = record {
  last = None;
  denominator = 0;
  agents = [];
  columns = [];
  rows = 0;
  units = [];
  prices = [];
  lists = [];
  open_list = [];
  worths = [];
  open_worths = [];
  pieces = [];
}

-- the kind of a record, by its first field
unfoldable pub word_of : List ℕ → Option Word
word_of f =
    if bytes_eq f (codes "lottery") then Some word.Lottery
    else if bytes_eq f (codes "denominator") then Some word.Denominator
    else if bytes_eq f (codes "agents") then Some word.Agents
    else if bytes_eq f (codes "objects") then Some word.Objects
    else if bytes_eq f (codes "row") then Some word.Row
    else if bytes_eq f (codes "price") then Some word.Price
    else if bytes_eq f (codes "worth") then Some word.Worth
    else if bytes_eq f (codes "piece") then Some word.Piece
    else if bytes_eq f (codes "give") then Some word.Give
    else if bytes_eq f (codes "end") then Some word.End
    else None

-- the place of an agent, and 0 where it is unknown
abbrev pub agent_at : Before → List ℕ → ℕ
agent_at b name = unwrap_or (name_index b.agents name) 0

-- the place of a column, and 0 where it is unknown
abbrev pub column_at : Before → List ℕ → ℕ
column_at b name = unwrap_or (name_index b.columns name) 0

-- the pieces, with one more give in the last of them
abbrev pub onto_last : Give → List PieceValue → List PieceValue
onto_last g [] = []
onto_last g (p ∷ []) = (record p { gives = p.gives ++ g ∷ [] }) ∷ []
onto_last g (p ∷ q ∷ ps) = p ∷ onto_last g (q ∷ ps)

-- one more place on the open list, which `none` closes
unfoldable pub with_place : Bool → ℕ → ℤ → Before → Before
with_place true column worth b = record b {
  lists = b.lists ++ (b.open_list ++ column ∷ []) ∷ [];
  open_list = [];
  worths = b.worths ++ (b.open_worths ++ worth ∷ []) ∷ [];
  open_worths = [];
}
with_place false column worth b = record b {
  open_list = b.open_list ++ column ∷ [];
  open_worths = b.open_worths ++ worth ∷ [];
}

-- what a record of this kind adds
unfoldable pub add : Word → Row → Before → Before
add word.Lottery row b = b
add word.Denominator row b = record b { denominator = number (field row 1) }
add word.Agents row b = record b { agents = drop 1 row }
add word.Objects row b = record b { columns = drop 1 row }
add word.Row row b = record b { rows = b.rows + 1; units = b.units ++ map number (drop 2 row) }
add word.Price row b = record b { prices = b.prices ++ number (field row 2) ∷ [] }
add word.Worth row b = with_place (bytes_eq (field row 2) null_name) (column_at b (field row 2)) (signed (field row 3)) b
add word.Piece row b = record b { pieces = b.pieces ++ (record { weight = number (field row 2); gives = [] }) ∷ [] }
add word.Give row b = record b {
  pieces = onto_last (record {
    agent = agent_at b (field row 1);
    object = column_at b (field row 2);
    count = number (field row 3);
  }) b.pieces;
}
add word.End row b = b

-- what a record adds, where its first field is that of this kind, or of none
unfoldable pub add_word : Option Word → Row → Before → Before
add_word None row b = b
add_word (Some w) row b = record (add w row b) { last = Some w }

-- what these records say, after others
unfoldable pub said_from : Before → List Row → Before
said_from b [] = b
said_from b (r ∷ rs) = said_from (add_word (word_of (first_field r)) r b) rs

-- what these records say
abbrev pub said_by : List Row → Before
said_by rows = said_from nothing rows

-- ---- how far records have come, in the words of the records alone

-- the records of some kind
abbrev pub kind_records : List Row → List Row
kind_records rows = filter (λ r. is_some (word_of (first_field r))) rows

-- the kind of the last of them
abbrev pub last_kind : List Row → Option Word
last_kind rows = word_of (first_field (slice_index_or (kind_records rows) (length (kind_records rows) - 1) []))

-- the records of places after the last one of `none`
abbrev pub open_places : List Row → List Row
open_places rows = reverse (before_first (λ r. bytes_eq (field r 2) null_name) (reverse rows))

-- an open list is a list where it has a place
abbrev pub if_some : {X : Type 0} → List X → List (List X)
if_some [] = []
if_some (x ∷ xs) = (x ∷ xs) ∷ []
