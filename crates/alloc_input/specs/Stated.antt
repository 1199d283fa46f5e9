-- What some records of a text of quotas have stated, and what one more record adds.
use Rattle.std.specs.Prelude.{◌==◌, ◌++◌, ◌∷◌, ℕ, Bool, true, false, List, [], Option, Some, None, length, drop, codes, if◌then◌else◌, slice_get, slice_index_or, slice_set, unwrap_or, replicate}
use Rattle.std.specs.List.{filter_map}
use Rattle.std.specs.Str.{bytes_eq}
use Rattle.definitions.specs.Sets.{SetValue}
use Rattle.definitions.specs.Texts.{Row, field, count_of, name_index}
use Rattle.alloc_input.specs.Cells.{numbers_to, distinct_below, with_rectangle}
use Rattle.alloc_input.specs.declared.mode.Mode.{Mode}
use Rattle.alloc_input.specs.declared.mode.Mode.TheVariants as mode
use Rattle.alloc_input.specs.declared.quotas.words.Word.{Word}
use Rattle.alloc_input.specs.declared.quotas.words.Word.TheVariants as word

-- what the text speaks of: agents, objects without `none`, and whether it is read for `solve`
pub record Setting : Type 0 where
  pub agents : List (List ℕ)
  pub objects : List (List ℕ)
  pub solve : Bool

-- what some records have stated
pub record Stated : Type 0 where
  -- the objects and the agents that have a record of their own
  pub columns : List (List ℕ)
  pub rows : List (List ℕ)
  -- the groups with the agents of each, the bundles with the objects of each
  pub groups : List (List ℕ)
  pub members : List (List ℕ)
  pub bundles : List (List ℕ)
  pub contents : List (List ℕ)
  -- the names of `set` records, and where the set of each stands among the sets
  pub names : List (List ℕ)
  pub places : List ℕ
  -- the sets, in the order of their numbers
  pub sets : List SetValue
  -- the demand of each agent
  pub demands : List ℕ

-- whether a text is read for `solve`
abbrev pub is_solve : Mode → Bool
is_solve mode.Solve = true
is_solve mode.Decompose = false

-- these agents and objects
abbrev pub setting_of : List (List ℕ) → List (List ℕ) → Bool → Setting
setting_of agents objects solve = record { agents = agents; objects = objects; solve = solve }

-- the kind of record that a first field names
unfoldable pub word_of : List ℕ → Option Word
word_of text =
    if bytes_eq text (codes "object") then Some word.Object
    else if bytes_eq text (codes "agent") then Some word.Agent
    else if bytes_eq text (codes "group") then Some word.Group
    else if bytes_eq text (codes "bundle") then Some word.Bundle
    else if bytes_eq text (codes "set") then Some word.Set
    else if bytes_eq text (codes "in") then Some word.In
    else None

-- ---- words of the fields

-- a floor or ceiling: a count, or the default where the field is empty or missing
abbrev pub quota_of : ℕ → List ℕ → Option ℕ
quota_of default text = if length text == 0 then Some default else count_of text

-- its number, and 0 where the text is none
unfoldable pub quota_at : ℕ → List ℕ → ℕ
quota_at default text = unwrap_or (quota_of default text) 0

-- a missing floor is 0
abbrev pub floor_at : Row → ℕ → ℕ
floor_at row k = quota_at 0 (field row k)

-- a missing ceiling is 1,000
abbrev pub ceiling_at : Row → ℕ → ℕ
ceiling_at row k = quota_at 1000 (field row k)

-- the side that a text names, or 0
abbrev pub side_of : List ℕ → ℕ
side_of text = if bytes_eq text (codes "1") then 1 else if bytes_eq text (codes "2") then 2 else 0

-- what a number leads to, if there is one
abbrev pub bind_number : {X : Type 0} → (ℕ → Option X) → Option ℕ → Option X
bind_number f None = None
bind_number f (Some n) = f n

-- the number of the member that a field of a group or bundle names; an empty field names none
abbrev pub member_of : List (List ℕ) → List ℕ → Option ℕ
member_of names text = if length text == 0 then None else name_index names text

-- those of some fields, each once, rising
abbrev pub members_named : List (List ℕ) → List (List ℕ) → List ℕ
members_named names fields = distinct_below (length names) (filter_map (member_of names) fields)

-- those of a record, from its third field on
abbrev pub members_of : List (List ℕ) → Row → List ℕ
members_of names row = members_named names (drop 2 row)

-- the numbers that a word names: that of a name, or those of a label's list
abbrev pub listed : Option ℕ → Option (List ℕ) → Option (List ℕ)
listed None list = list
listed (Some k) list = Some (k ∷ [])

-- all numbers for `*`, else those that the word names
unfoldable pub numbers_named : List (List ℕ) → List (List ℕ) → List (List ℕ) → List ℕ → Option (List ℕ)
numbers_named names labels lists text =
    if bytes_eq text (codes "*") then Some (numbers_to (length names))
    else listed (name_index names text) (bind_number (slice_get lists) (name_index labels text))

-- the agents of an `in` record
abbrev pub agents_named : Setting → Stated → Row → Option (List ℕ)
agents_named g st row = numbers_named g.agents st.groups st.members (field row 2)

-- the columns of an `in` record
abbrev pub columns_named : Setting → Stated → Row → Option (List ℕ)
columns_named g st row = numbers_named g.objects st.bundles st.contents (field row 3)

-- where the set of an `in` record stands among the sets
abbrev pub place_named : Stated → Row → Option ℕ
place_named st row = bind_number (slice_get st.places) (name_index st.names (field row 1))

-- ---- what a record adds

-- a set without cells
abbrev pub empty_set : ℕ → ℕ → ℕ → SetValue
empty_set side floor ceiling = record { side = side; floor = floor; ceiling = ceiling; cells = [] }

-- a set and the cells of these agents and columns besides
abbrev pub with_rectangle_in : ℕ → ℕ → List ℕ → List ℕ → SetValue → SetValue
with_rectangle_in m n agents columns s = record { side = s.side; floor = s.floor; ceiling = s.ceiling; cells = with_rectangle m n agents columns s.cells }

-- the same over the matrix of a setting
abbrev pub with_rectangle_of : Setting → List ℕ → List ℕ → SetValue → SetValue
with_rectangle_of g agents columns s = with_rectangle_in (length g.agents) (length g.objects) agents columns s

-- a number, or 0 where there is none: it is there where the record is lawful
abbrev pub number_or_0 : Option ℕ → ℕ
number_or_0 o = unwrap_or o 0

-- an object's column, as a set of side 2
unfoldable pub add_object : Setting → Stated → Row → Stated
add_object g st row = record st {
  columns = st.columns ++ field row 1 ∷ [];
  sets = st.sets ++ with_rectangle_of g (numbers_to (length g.agents)) (number_or_0 (name_index g.objects (field row 1)) ∷ []) (empty_set 2 (floor_at row 2) (ceiling_at row 3)) ∷ [];
}

-- an agent's row, as a set of side 1
unfoldable pub add_row : Setting → Stated → Row → Stated
add_row g st row = record st {
  rows = st.rows ++ field row 1 ∷ [];
  sets = st.sets ++ with_rectangle_of g (number_or_0 (name_index g.agents (field row 1)) ∷ []) (numbers_to (length g.objects)) (empty_set 1 (floor_at row 2) (ceiling_at row 3)) ∷ [];
}

-- an agent's demand
unfoldable pub add_demand : Setting → Stated → Row → Stated
add_demand g st row = record st {
  rows = st.rows ++ field row 1 ∷ [];
  demands = slice_set st.demands (number_or_0 (name_index g.agents (field row 1))) (floor_at row 2);
}

-- a group with its agents
unfoldable pub add_group : Setting → Stated → Row → Stated
add_group g st row = record st { groups = st.groups ++ field row 1 ∷ []; members = st.members ++ members_of g.agents row ∷ [] }

-- a bundle with its objects
unfoldable pub add_bundle : Setting → Stated → Row → Stated
add_bundle g st row = record st { bundles = st.bundles ++ field row 1 ∷ []; contents = st.contents ++ members_of g.objects row ∷ [] }

-- an empty set
unfoldable pub add_set : Setting → Stated → Row → Stated
add_set g st row = record st {
  names = st.names ++ field row 1 ∷ [];
  places = st.places ++ length st.sets ∷ [];
  sets = st.sets ++ empty_set (side_of (field row 2)) (floor_at row 3) (ceiling_at row 4) ∷ [];
}

-- the sets, where the one at a place has the cells of these agents and columns besides
unfoldable pub grown_at : ℕ → ℕ → List SetValue → ℕ → List ℕ → List ℕ → List SetValue
grown_at m n sets place agents columns = slice_set sets place (with_rectangle_in m n agents columns (slice_index_or sets place (empty_set 0 0 0)))

-- cells of a set
unfoldable pub add_cells : Setting → Stated → Row → Stated
add_cells g st row = record st {
  sets = grown_at (length g.agents) (length g.objects) st.sets (number_or_0 (place_named st row)) (unwrap_or (agents_named g st row) []) (unwrap_or (columns_named g st row) []);
}

-- what a record of this kind adds: an `agent` record states a demand in `solve`, and a row otherwise
unfoldable pub add_kind : Option Word → Setting → Stated → Row → Stated
add_kind None g st row = st
add_kind (Some word.Object) g st row = add_object g st row
add_kind (Some word.Agent) g st row = if g.solve then add_demand g st row else add_row g st row
add_kind (Some word.Group) g st row = add_group g st row
add_kind (Some word.Bundle) g st row = add_bundle g st row
add_kind (Some word.Set) g st row = add_set g st row
add_kind (Some word.In) g st row = add_cells g st row

-- a record without fields is passed over
unfoldable pub add_record : Setting → Stated → Row → Stated
add_record g st row = if length row == 0 then st else add_kind (word_of (field row 0)) g st row

-- what some records state, after others
unfoldable pub stated_from : Setting → Stated → List Row → Stated
stated_from g st [] = st
stated_from g st (r ∷ rs) = stated_from g (add_record g st r) rs

-- what is stated of so many agents before any record
abbrev pub nothing_of : ℕ → Stated
nothing_of agents = record { columns = []; rows = []; groups = []; members = []; bundles = []; contents = []; names = []; places = []; sets = []; demands = replicate agents 1 }

-- before any record, each agent has a demand of 1
abbrev pub nothing : Setting → Stated
nothing g = nothing_of (length g.agents)

-- what the records of a text state
abbrev pub stated_by : Setting → List Row → Stated
stated_by g rows = stated_from g (nothing g) rows
