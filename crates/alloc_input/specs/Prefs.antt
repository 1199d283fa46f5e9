-- How a text of preferences reads, over the declared objects.
use Rattle.std.specs.Prelude.{◌≡◌, ◌==◌, ◌||◌, ℕ, Bool, not, List, [], ◌∷◌, ◌++◌, Option, Some, None, length, map, filter, drop, codes, if◌then◌else◌, nat_lt, is_none}
use Rattle.std.specs.List.{list_any, list_all, filter_map}
use Rattle.std.specs.Str.{bytes_eq, is_utf8}
use Rattle.definitions.specs.Firsts.{fault_after, first_among, tests}
use Rattle.definitions.specs.Texts.{Row, first_field, is_name, name_index, null_name}
use Rattle.alloc_input.specs.declared.faults.InputKind.{InputKind}
use Rattle.alloc_input.specs.declared.faults.InputKind.TheVariants as kind

-- a record without fields, which is skipped
abbrev pub is_blank : Row → Bool
is_blank row = length row == 0

-- the records that are not skipped
unfoldable pub filled_rows : List Row → List Row
filled_rows rows = filter (λ row. not (is_blank row)) rows

-- the first of them is the header
abbrev pub has_header : List Row → Bool
has_header rows = not (length (filled_rows rows) == 0)

-- the others are the agents' records
abbrev pub agent_rows : List Row → List Row
agent_rows rows = drop 1 (filled_rows rows)

-- the agents' names
abbrev pub agents_of : List Row → List (List ℕ)
agents_of rows = map first_field (agent_rows rows)

-- ---- one agent's list

-- the column of the object that a choice names; an empty field and `none` name none
unfoldable pub column_of : List (List ℕ) → List ℕ → Option ℕ
column_of objects choice = if (length choice == 0) || bytes_eq choice null_name then None else name_index objects choice

-- the columns of these choices
unfoldable pub columns_of : List (List ℕ) → List (List ℕ) → List ℕ
columns_of objects choices = filter_map (column_of objects) choices

-- a column is known, and new on the list
abbrev pub check_column : Option ℕ → List ℕ → Option InputKind
check_column None columns = Some kind.UnknownObject
check_column (Some k) columns = if list_any (λ j. j == k) columns then Some kind.RepeatedChoice else None

-- a choice, after these: an empty one passes; none may stand after `none`; any other than `none` is a new object of a lawful name
unfoldable pub check_choice : List (List ℕ) → List (List ℕ) → List ℕ → Option InputKind
check_choice objects earlier choice =
    if length choice == 0 then None
    else tests ((not (list_any (λ f. bytes_eq f null_name) earlier), kind.NullNotLast) ∷ [])
    (if bytes_eq choice null_name then None
    else tests ((is_name choice, kind.BadName) ∷ []) (check_column (name_index objects choice) (columns_of objects earlier)))

-- the choices of an agent's record, from left to right
unfoldable pub check_choices : List (List ℕ) → Row → Option InputKind
check_choices objects row = first_among (check_choice objects) (drop 1 row)

-- the columns of an agent's list, with that of `none` last
abbrev pub list_of : List (List ℕ) → Row → List ℕ
list_of objects row = columns_of objects (drop 1 row) ++ length objects ∷ []

-- ---- records

-- the record of an agent, after those of these agents
unfoldable pub check_agent : List (List ℕ) → List (List ℕ) → Row → Option InputKind
check_agent objects agents row = tests (
    (is_name (first_field row), kind.BadName)
    ∷ (is_none (name_index agents (first_field row)), kind.RepeatedAgent)
    ∷ (nat_lt (length agents) 1000, kind.OverLimit) ∷ [])
    (check_choices objects row)

-- the first failed check of a record, after those before it
unfoldable pub check_record : List (List ℕ) → List Row → Row → Option InputKind
check_record objects before row =
    if is_blank row then None
    else tests ((list_all is_utf8 row, kind.NotUtf8) ∷ [])
    (if has_header before then check_agent objects (agents_of before) row
    else tests ((bytes_eq (first_field row) (codes "agent"), kind.NoHeader) ∷ []) None)

-- after the last record there is a header and an agent
unfoldable pub check_end : List Row → Option InputKind
check_end rows = tests (
    (has_header rows, kind.NoHeader)
    ∷ (not (length (agents_of rows) == 0), kind.NoAgents) ∷ []) None

-- the number of the first unlawful record, from 1, with its first failed check; or the fault at the number of records plus 1
abbrev pub fault_of : List (List ℕ) → List Row → Option (ℕ × InputKind)
fault_of objects rows = fault_after (check_record objects) check_end [] rows

-- the agents' lists, as columns
abbrev pub lists_of : List (List ℕ) → List Row → List (List ℕ)
lists_of objects rows = map (list_of objects) (agent_rows rows)

-- the records are lawful, and these are the agents and their lists
pub record ReadAs (objects : List (List ℕ)) (rows : List Row) (agents lists : List (List ℕ)) : Type 0 where
  pub lawful : fault_of objects rows ≡ None
  pub agents_read : agents ≡ agents_of rows
  pub lists_read : lists ≡ lists_of objects rows
