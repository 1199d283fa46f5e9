-- The checks of a lottery's records, kind by kind, in their order.
use Rattle.std.specs.Prelude.{◌==◌, ◌&&◌, ◌||◌, ◌+◌, ◌*◌, ◌^◌, ℕ, Bool, true, false, not, List, [], ◌∷◌, Option, Some, None, length, map, drop, codes, sum, if◌then◌else◌, nat_lt, nat_le, is_some, is_none, nat_abs}
use Rattle.std.specs.List.{list_all, list_any, sum_by}
use Rattle.std.specs.Str.{bytes_eq, is_utf8}
use Rattle.definitions.specs.Firsts.{fault_after, first_among, tests}
use Rattle.definitions.specs.Texts.{Row, field, first_field, null_name, count_of, number, signed_of, signed, is_name, name_index}
use Rattle.definitions.specs.Values.{PieceValue}
use Rattle.definitions.specs.declared.Give.{Give}
use Rattle.lottery_file.specs.Said.{Before, word_of, agent_at, column_at, said_by}
use Rattle.lottery_file.specs.declared.faults.LotteryKind.{LotteryKind}
use Rattle.lottery_file.specs.declared.faults.LotteryKind.TheVariants as kind
use Rattle.lottery_file.specs.declared.words.Word.{Word}
use Rattle.lottery_file.specs.declared.words.Word.TheVariants as word

-- ---- what may come next

-- whether a record of the one kind may come right after one of the other
unfoldable pub may_follow : Word → Option Word → Bool
may_follow word.Lottery None = true
may_follow word.Denominator (Some word.Lottery) = true
may_follow word.Agents (Some word.Denominator) = true
may_follow word.Objects (Some word.Agents) = true
may_follow word.Row (Some word.Objects) = true
may_follow word.Row (Some word.Row) = true
may_follow word.Price (Some word.Row) = true
may_follow word.Price (Some word.Price) = true
may_follow word.Worth (Some word.Row) = true
may_follow word.Worth (Some word.Price) = true
may_follow word.Worth (Some word.Worth) = true
may_follow word.Piece (Some word.Row) = true
may_follow word.Piece (Some word.Worth) = true
may_follow word.Piece (Some word.Piece) = true
may_follow word.Piece (Some word.Give) = true
may_follow word.Give (Some word.Piece) = true
may_follow word.Give (Some word.Give) = true
may_follow word.End (Some word.Piece) = true
may_follow word.End (Some word.Give) = true
may_follow w last = false

-- whether `none` is a column: it can only be the last
abbrev pub is_priced : Before → Bool
is_priced b = is_some (name_index b.columns null_name)

-- whether every agent has its row
abbrev pub has_all_rows : Before → Bool
has_all_rows b = nat_le (length b.agents) b.rows

-- whether every agent's list is closed
abbrev pub has_all_lists : Before → Bool
has_all_lists b = nat_le (length b.agents) (length b.lists)

-- whether there is still, or already, room for a record of this kind
unfoldable pub is_due : Word → Before → Bool
is_due word.Row b = not (has_all_rows b)
is_due word.Price b = has_all_rows b && is_priced b
is_due word.Worth b = has_all_rows b && (is_priced b && not (has_all_lists b))
is_due word.Piece b = has_all_rows b && (not (is_priced b) || has_all_lists b)
is_due w b = true

-- ---- the checks of each kind

-- whether this is the number n
abbrev pub is_at : ℕ → Option ℕ → Bool
is_at n None = false
is_at n (Some i) = i == n

unfoldable pub check_lottery : Row → Option LotteryKind
check_lottery row = tests (
    (length row == 2, kind.WrongLength)
    ∷ (bytes_eq (field row 1) (codes "1"), kind.UnknownVersion) ∷ []) None

unfoldable pub check_denominator : Row → Option LotteryKind
check_denominator row = tests (
    (length row == 2, kind.WrongLength)
    ∷ (is_some (count_of (field row 1)), kind.BadNumber)
    ∷ (nat_le 1 (number (field row 1)), kind.BadNumber)
    ∷ (nat_le (number (field row 1)) (2 ^ 116), kind.OverLimit) ∷ []) None

-- the name of an agent, after these
unfoldable pub check_agent_name : List (List ℕ) → List ℕ → Option LotteryKind
check_agent_name earlier name = tests (
    (is_name name, kind.BadName)
    ∷ (is_none (name_index earlier name), kind.BadName)
    ∷ (nat_lt (length earlier) 1000, kind.OverLimit) ∷ []) None

unfoldable pub check_agents : Row → Option LotteryKind
check_agents row = tests ((nat_le 2 (length row), kind.WrongLength) ∷ []) (first_among check_agent_name (drop 1 row))

-- the name of a column, after these
unfoldable pub check_column_name : List (List ℕ) → List ℕ → Option LotteryKind
check_column_name earlier name = tests (
    (is_name name, kind.BadName)
    ∷ (is_none (name_index earlier name), kind.BadName)
    ∷ (is_none (name_index earlier null_name), kind.BadName)
    ∷ (bytes_eq name null_name || nat_lt (length earlier) 200, kind.OverLimit) ∷ []) None

-- an entry of a row, after entries with this total
unfoldable pub check_entry : ℕ → ℕ → List ℕ → Option LotteryKind
check_entry limit total text = tests (
    (is_some (count_of text), kind.BadNumber)
    ∷ (nat_le (number text) limit, kind.OverLimit)
    ∷ (nat_le (total + number text) limit, kind.OverLimit) ∷ []) None

-- the entries of a row, where the rows before it have this total
unfoldable pub check_entries : ℕ → ℕ → List (List ℕ) → Option LotteryKind
check_entries limit total entries = first_among (λ earlier. check_entry limit (total + sum (map number earlier))) entries

unfoldable pub check_row : Before → Row → Option LotteryKind
check_row b row = tests (
    (length row == 2 + length b.columns, kind.WrongLength)
    ∷ (is_some (name_index b.agents (field row 1)), kind.UnknownName)
    ∷ (is_at b.rows (name_index b.agents (field row 1)), kind.WrongOrder) ∷ [])
    (check_entries (1000 * b.denominator) (sum b.units) (drop 2 row))

unfoldable pub check_price : Before → Row → Option LotteryKind
check_price b row = tests (
    (length row == 3, kind.WrongLength)
    ∷ (is_some (count_of (field row 1)), kind.BadNumber)
    ∷ (is_at (length b.prices + 1) (count_of (field row 1)), kind.WrongOrder)
    ∷ (nat_le (number (field row 1)) 1000, kind.OverLimit)
    ∷ (is_some (count_of (field row 2)), kind.BadNumber)
    ∷ (nat_le (number (field row 2)) (2 ^ 40), kind.OverLimit) ∷ []) None

-- a worth, from -2^40 to 2^40
unfoldable pub check_worth_text : List ℕ → Option LotteryKind
check_worth_text text = tests (
    (is_some (signed_of text), kind.BadNumber)
    ∷ (nat_le (nat_abs (signed text)) (2 ^ 40), kind.OverLimit) ∷ []) None

unfoldable pub check_worth : Before → Row → Option LotteryKind
check_worth b row = tests (
    (length row == 4, kind.WrongLength)
    ∷ (is_some (name_index b.agents (field row 1)), kind.UnknownName)
    ∷ (is_at (length b.lists) (name_index b.agents (field row 1)), kind.WrongOrder)
    ∷ (is_some (name_index b.columns (field row 2)), kind.UnknownName)
    ∷ (not (list_any (λ j. j == column_at b (field row 2)) b.open_list), kind.WrongOrder) ∷ [])
    (check_worth_text (field row 3))

-- the weights of pieces
abbrev pub weight_sum : List PieceValue → ℕ
weight_sum ps = sum_by (λ p. p.weight) ps

unfoldable pub check_piece : Before → Row → Option LotteryKind
check_piece b row = tests (
    (length row == 3, kind.WrongLength)
    ∷ (is_some (count_of (field row 1)), kind.BadNumber)
    ∷ (is_at (length b.pieces + 1) (count_of (field row 1)), kind.WrongOrder)
    ∷ (is_some (count_of (field row 2)), kind.BadNumber)
    ∷ (nat_le 1 (number (field row 2)), kind.BadNumber)
    ∷ (nat_le (weight_sum b.pieces + number (field row 2)) b.denominator, kind.WeightsDontAdd) ∷ []) None

-- whether a cell comes after the give, by agent and then column
abbrev pub comes_after : ℕ → ℕ → Give → Bool
comes_after agent column g = nat_lt g.agent agent || ((g.agent == agent) && nat_lt g.object column)

-- whether it comes after the last give of these
abbrev pub follows_gives : ℕ → ℕ → List Give → Bool
follows_gives agent column [] = true
follows_gives agent column (g ∷ []) = comes_after agent column g
follows_gives agent column (g ∷ h ∷ gs) = follows_gives agent column (h ∷ gs)

-- whether it comes after the last give of the last piece
abbrev pub follows_last : ℕ → ℕ → List PieceValue → Bool
follows_last agent column [] = true
follows_last agent column (p ∷ []) = follows_gives agent column p.gives
follows_last agent column (p ∷ q ∷ ps) = follows_last agent column (q ∷ ps)

unfoldable pub check_give : Before → Row → Option LotteryKind
check_give b row = tests (
    (length row == 4, kind.WrongLength)
    ∷ (is_some (name_index b.agents (field row 1)), kind.UnknownName)
    ∷ (is_some (name_index b.columns (field row 2)), kind.UnknownName)
    ∷ (follows_last (agent_at b (field row 1)) (column_at b (field row 2)) b.pieces, kind.WrongOrder)
    ∷ (is_some (count_of (field row 3)), kind.BadNumber)
    ∷ (nat_le 1 (number (field row 3)), kind.BadNumber)
    ∷ (nat_le (number (field row 3)) 1000, kind.OverLimit) ∷ []) None

unfoldable pub check_end_record : Before → Row → Option LotteryKind
check_end_record b row = tests (
    (length row == 2, kind.WrongLength)
    ∷ (is_at (length b.pieces) (count_of (field row 1)), kind.BadNumber)
    ∷ (weight_sum b.pieces == b.denominator, kind.WeightsDontAdd) ∷ []) None

-- a record of this kind, which is allowed next
unfoldable pub check_word : Word → Before → Row → Option LotteryKind
check_word word.Lottery b row = check_lottery row
check_word word.Denominator b row = check_denominator row
check_word word.Agents b row = check_agents row
check_word word.Objects b row = first_among check_column_name (drop 1 row)
check_word word.Row b row = check_row b row
check_word word.Price b row = check_price b row
check_word word.Worth b row = check_worth b row
check_word word.Piece b row = check_piece b row
check_word word.Give b row = check_give b row
check_word word.End b row = check_end_record b row

-- ---- a record, and a text

-- a record with fields that are text
unfoldable pub check_kind : Option Word → Before → Row → Option LotteryKind
check_kind None b row = Some kind.WrongOrder
check_kind (Some w) b row = tests ((may_follow w b.last && is_due w b, kind.WrongOrder) ∷ []) (check_word w b row)

-- the first failed check of a record, after what the records before it say
unfoldable pub check_next : Before → Row → Option LotteryKind
check_next b row =
    if length row == 0 then None
    else if not (list_all is_utf8 row) then Some kind.NotUtf8
    else check_kind (word_of (first_field row)) b row

-- the first failed check of a record, after these
unfoldable pub check_record : List Row → Row → Option LotteryKind
check_record earlier row = check_next (said_by earlier) row

abbrev pub is_ended : Option Word → Bool
is_ended (Some word.End) = true
is_ended w = false

-- the fault of records that are lawful and end too early
unfoldable pub check_end : List Row → Option LotteryKind
check_end rows = if is_ended (said_by rows).last then None else Some kind.CutOff

-- the number of the first unlawful record with its first failed check, or the fault at the end
abbrev pub fault_of : List Row → Option (ℕ × LotteryKind)
fault_of rows = fault_after check_record check_end [] rows
