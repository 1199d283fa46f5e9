-- What the records of quotas say, in the words of the records alone.
use Rattle.std.specs.Prelude.{◌==◌, ◌&&◌, ◌||◌, ℕ, Bool, false, not, List, [], Option, Some, None, codes, drop, filter, length, map, option_map, if◌then◌else◌, slice_index_or, unwrap_or}
use Rattle.std.specs.List.{find, list_any}
use Rattle.std.specs.Str.{bytes_eq}
use Rattle.definitions.specs.declared.Cell.{Cell}
use Rattle.definitions.specs.Sets.{SetValue, all_cells}
use Rattle.definitions.specs.Texts.{Row, field, name_index}
use Rattle.table_text.specs.Records.{begins_with, records_of}
use Rattle.alloc_input.specs.Cells.{numbers_to}
use Rattle.alloc_input.specs.Stated.{Setting, ceiling_at, floor_at, side_of}

-- the names of the records that begin with this word: their second fields
abbrev pub names_of : List ℕ → List Row → List (List ℕ)
names_of word rows = map (λ r. field r 1) (records_of word rows)

-- whether this is the number i
abbrev pub is_number : ℕ → Option ℕ → Bool
is_number i None = false
is_number i (Some k) = k == i

-- whether the text is the i-th of these names, from 0
abbrev pub is_name_at : List (List ℕ) → ℕ → List ℕ → Bool
is_name_at names i text = is_number i (name_index names text)

-- ---- groups and bundles

-- whether the record of a group or bundle names number i: in a field from the third on, which is not empty
abbrev pub lists_number : List (List ℕ) → ℕ → Row → Bool
lists_number names i r = list_any (λ f. not (length f == 0) && is_name_at names i f) (drop 2 r)

-- the numbers that it names, each once, in rising order
abbrev pub numbers_listed : List (List ℕ) → Row → List ℕ
numbers_listed names r = filter (λ i. lists_number names i r) (numbers_to (length names))

-- whether a word of an `in` record means number i: `*` means all, a name its own number, and that of one of these
-- groups or bundles the numbers that it names
abbrev pub means : List (List ℕ) → List Row → ℕ → List ℕ → Bool
means names labels i text =
    bytes_eq text (codes "*") || (is_name_at names i text || list_any (λ r. bytes_eq (field r 1) text && lists_number names i r) labels)

-- ---- sets

-- whether an `in` record adds the cell to its set
abbrev pub adds_cell : Setting → List Row → Cell → Row → Bool
adds_cell g rows c q =
    means g.agents (records_of (codes "group") rows) c.agent (field q 2) && means g.objects (records_of (codes "bundle") rows) c.object (field q 3)

-- the cells that pass, in order
abbrev pub cells_where : Setting → (Cell → Bool) → List Cell
cells_where g p = filter p (all_cells (length g.agents) (length g.objects))

-- the set of an `object` record: of side 2, the cells of the object
abbrev pub column_set : Setting → Row → SetValue
column_set g r = record { side = 2; floor = floor_at r 2; ceiling = ceiling_at r 3; cells = cells_where g (λ c. is_name_at g.objects c.object (field r 1)) }

-- the set of an `agent` record: of side 1, the cells of the agent
abbrev pub row_set : Setting → Row → SetValue
row_set g r = record { side = 1; floor = floor_at r 2; ceiling = ceiling_at r 3; cells = cells_where g (λ c. is_name_at g.agents c.agent (field r 1)) }

-- the set of a `set` record: of the side that it says, the cells that the `in` records of its name add
abbrev pub listed_set : Setting → List Row → Row → SetValue
listed_set g rows r = record {
  side = side_of (field r 2);
  floor = floor_at r 3;
  ceiling = ceiling_at r 4;
  cells = cells_where g (λ c. list_any (λ q. bytes_eq (field q 1) (field r 1) && adds_cell g rows c q) (records_of (codes "in") rows));
}

-- whether a record states a set: each `object` and each `set` does, and each `agent` but for `solve`
abbrev pub states_set : Setting → Row → Bool
states_set g r = begins_with (codes "object") r || (begins_with (codes "set") r || (begins_with (codes "agent") r && not g.solve))

-- the records that do, in their order
abbrev pub set_records : Setting → List Row → List Row
set_records g rows = filter (states_set g) rows

-- the set that a record states
abbrev pub set_of : Setting → List Row → Row → SetValue
set_of g rows r =
    if begins_with (codes "object") r then column_set g r
    else if begins_with (codes "agent") r then row_set g r
    else listed_set g rows r

-- the places, among the records that state sets, of those that begin with `set`
abbrev pub set_places : Setting → List Row → List ℕ
set_places g rows = filter (λ k. begins_with (codes "set") (slice_index_or (set_records g rows) k [])) (numbers_to (length (set_records g rows)))

-- ---- demands

-- the demand of agent i for `solve`: the number in its `agent` record, and 1 where it has none
abbrev pub demand_of : Setting → List Row → ℕ → ℕ
demand_of g rows i = unwrap_or (option_map (λ r. floor_at r 2) (find (λ r. is_name_at g.agents i (field r 1)) (records_of (codes "agent") rows))) 1
