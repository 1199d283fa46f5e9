-- How a text of quotas reads: the checks of its records, kind by kind, in their order, and what they state.
use Rattle.std.specs.Prelude.{◌≡◌, ◌≤◌, ◌+◌, ◌==◌, ◌||◌, ◌&&◌, ◌∷◌, ℕ, Bool, false, not, List, [], Option, Some, None, length, map, drop, sum, nat_lt, nat_le, is_some, if◌then◌else◌}
use Rattle.std.specs.List.{list_all}
use Rattle.std.specs.Option.{option_or}
use Rattle.std.specs.Str.{bytes_eq, is_utf8}
use Rattle.definitions.specs.Firsts.{fault_after}
use Rattle.definitions.specs.Sets.{FamilyValue, SetValue, cells_in}
use Rattle.definitions.specs.Texts.{Row, field, is_name, name_index, has_name, null_name}
use Rattle.table_text.specs.Rows.{IsTextOf}
use Rattle.alloc_input.specs.Checks.{need, first_of}
use Rattle.alloc_input.specs.Objects.{declared}
use Rattle.alloc_input.specs.Stated.{Setting, Stated, word_of, quota_of, floor_at, ceiling_at, side_of, agents_named, columns_named, place_named, add_object, add_row, add_demand, add_set, add_cells, stated_by}
use Rattle.alloc_input.specs.declared.faults.InputKind.{InputKind}
use Rattle.alloc_input.specs.declared.faults.InputKind.TheVariants as kind
use Rattle.alloc_input.specs.declared.faults.InputRefusal.{InputRefusal}
use Rattle.alloc_input.specs.declared.faults.InputRefusal.TheVariants as refusal
use Rattle.alloc_input.specs.declared.mode.Mode.{Mode}
use Rattle.alloc_input.specs.declared.mode.Mode.TheVariants as mode
use Rattle.alloc_input.specs.declared.quotas.words.Word.{Word}
use Rattle.alloc_input.specs.declared.quotas.words.Word.TheVariants as word

-- ---- quotas and limits

-- a number of at most 1,000
abbrev pub within_limit : Option ℕ → Option InputKind
within_limit None = Some kind.BadNumber
within_limit (Some n) = need (nat_le n 1000) kind.OverLimit

-- a floor or ceiling is a count of at most 1,000
unfoldable pub check_quota : ℕ → List ℕ → Option InputKind
check_quota default text = within_limit (quota_of default text)

-- the floor, and then the ceiling after it
abbrev pub check_quotas : Row → ℕ → Option InputKind
check_quotas row k = option_or (check_quota 0 (field row k)) (check_quota 1000 (field row (k + 1)))

-- at most 1,000 sets with 1,000,000 cells
unfoldable pub check_limits : List SetValue → Option InputKind
check_limits sets = first_of (need (nat_le (length sets) 1000) kind.OverLimit ∷ need (nat_le (cells_in sets) 1000000) kind.OverLimit ∷ [])

-- a number that is not there, or is below this one
abbrev pub is_below : Option ℕ → ℕ → Bool
is_below None most = not false
is_below (Some n) most = nat_lt n most

-- ---- the checks of each kind, in order; the limits look at the sets after the record

-- an `object` record: a known object that has none yet, and its quotas
unfoldable pub object_words : Setting → Stated → Row → Option InputKind
object_words g st row = first_of (
    need (is_name (field row 1)) kind.BadName
    ∷ need (not (bytes_eq (field row 1) null_name)) kind.NoneInSet
    ∷ need (not g.solve || is_below (name_index g.objects (field row 1)) 200) kind.OverLimit
    ∷ need (is_some (name_index g.objects (field row 1))) kind.UnknownName
    ∷ need (not (is_some (name_index st.columns (field row 1)))) kind.RepeatedName
    ∷ check_quotas row 2
    ∷ need (not g.solve || floor_at row 2 == 0) kind.FloorInSolve
    ∷ need (nat_le (floor_at row 2) (ceiling_at row 3)) kind.FloorAboveCeiling
    ∷ [])

-- and the limits with its set
unfoldable pub check_object : Setting → Stated → Row → Option InputKind
check_object g st row = option_or (object_words g st row) (check_limits (add_object g st row).sets)

-- an `agent` record for `decompose`: a known agent that has none yet, and its quotas
unfoldable pub row_words : Setting → Stated → Row → Option InputKind
row_words g st row = first_of (
    need (is_name (field row 1)) kind.BadName
    ∷ need (is_some (name_index g.agents (field row 1))) kind.UnknownName
    ∷ need (not (is_some (name_index st.rows (field row 1)))) kind.RepeatedName
    ∷ check_quotas row 2
    ∷ need (nat_le (floor_at row 2) (ceiling_at row 3)) kind.FloorAboveCeiling
    ∷ [])

-- and the limits with its set
unfoldable pub check_row : Setting → Stated → Row → Option InputKind
check_row g st row = option_or (row_words g st row) (check_limits (add_row g st row).sets)

-- an `agent` record for `solve`: a known agent that has none yet, and a demand of at least 1
unfoldable pub demand_words : Setting → Stated → Row → Option InputKind
demand_words g st row = first_of (
    need (is_name (field row 1)) kind.BadName
    ∷ need (is_some (name_index g.agents (field row 1))) kind.UnknownName
    ∷ need (not (is_some (name_index st.rows (field row 1)))) kind.RepeatedName
    ∷ check_quotas row 2
    ∷ need (floor_at row 2 == ceiling_at row 3) kind.RowInSolve
    ∷ need (nat_le 1 (floor_at row 2)) kind.RowInSolve
    ∷ [])

-- the demands after the record add up to at most 1,000
unfoldable pub check_demand : Setting → Stated → Row → Option InputKind
check_demand g st row = option_or (demand_words g st row) (need (nat_le (sum (add_demand g st row).demands) 1000) kind.OverLimit)

-- a member that is not empty: not `none` in a bundle, and known
unfoldable pub check_member : Bool → List (List ℕ) → List ℕ → Option InputKind
check_member bundle names text =
    if length text == 0 then None
    else if bundle && bytes_eq text null_name then Some kind.NoneInSet
    else need (is_some (name_index names text)) kind.UnknownName

-- the members of a group or bundle, from the third field on
unfoldable pub check_members : Bool → List (List ℕ) → Row → Option InputKind
check_members bundle names row = first_of (map (check_member bundle names) (drop 2 row))

-- a `group` record: a new name, and agents
unfoldable pub check_group : Setting → Stated → Row → Option InputKind
check_group g st row = first_of (
    need (is_name (field row 1)) kind.BadName
    ∷ need (not (is_some (name_index g.agents (field row 1)))) kind.RepeatedName
    ∷ need (not (is_some (name_index st.groups (field row 1)))) kind.RepeatedName
    ∷ check_members false g.agents row
    ∷ [])

-- a `bundle` record: a new name other than `none`, and objects
unfoldable pub check_bundle : Setting → Stated → Row → Option InputKind
check_bundle g st row = first_of (
    need (is_name (field row 1)) kind.BadName
    ∷ need (not (bytes_eq (field row 1) null_name)) kind.NoneInSet
    ∷ need (not (is_some (name_index g.objects (field row 1)))) kind.RepeatedName
    ∷ need (not (is_some (name_index st.bundles (field row 1)))) kind.RepeatedName
    ∷ check_members (not false) g.objects row
    ∷ [])

-- a `set` record: a new name, a side, and its quotas
unfoldable pub set_words : Setting → Stated → Row → Option InputKind
set_words g st row = first_of (
    need (is_name (field row 1)) kind.BadName
    ∷ need (not (is_some (name_index st.names (field row 1)))) kind.RepeatedName
    ∷ need (not (side_of (field row 2) == 0)) kind.BadNumber
    ∷ need (not g.solve || side_of (field row 2) == 2) kind.SideInSolve
    ∷ check_quotas row 3
    ∷ need (not g.solve || floor_at row 3 == 0) kind.FloorInSolve
    ∷ need (nat_le (floor_at row 3) (ceiling_at row 4)) kind.FloorAboveCeiling
    ∷ [])

-- and the limits with its set
unfoldable pub check_set : Setting → Stated → Row → Option InputKind
check_set g st row = option_or (set_words g st row) (check_limits (add_set g st row).sets)

-- an `in` record: an earlier set, known agents and known columns
unfoldable pub in_words : Setting → Stated → Row → Option InputKind
in_words g st row = first_of (
    need (is_some (place_named st row)) kind.UnknownName
    ∷ need (is_some (agents_named g st row)) kind.UnknownName
    ∷ need (not (bytes_eq (field row 3) null_name)) kind.NoneInSet
    ∷ need (is_some (columns_named g st row)) kind.UnknownName
    ∷ [])

-- and the limits with its cells
unfoldable pub check_in : Setting → Stated → Row → Option InputKind
check_in g st row = option_or (in_words g st row) (check_limits (add_cells g st row).sets)

-- ---- a record, and a text

-- from so many to so many fields
abbrev pub has_length : ℕ → ℕ → Row → Bool
has_length least most row = nat_le least (length row) && nat_le (length row) most

-- the number of fields that a record of this kind may have
unfoldable pub fields_fit : Word → Row → Bool
fields_fit word.Object row = has_length 2 4 row
fields_fit word.Agent row = has_length 2 4 row
fields_fit word.Group row = nat_le 2 (length row)
fields_fit word.Bundle row = nat_le 2 (length row)
fields_fit word.Set row = has_length 3 5 row
fields_fit word.In row = has_length 4 4 row

-- the checks of each kind: an `agent` record states a demand in `solve`, and a row otherwise
unfoldable pub check_word : Word → Setting → Stated → Row → Option InputKind
check_word word.Object g st row = check_object g st row
check_word word.Agent g st row = if g.solve then check_demand g st row else check_row g st row
check_word word.Group g st row = check_group g st row
check_word word.Bundle g st row = check_bundle g st row
check_word word.Set g st row = check_set g st row
check_word word.In g st row = check_in g st row

-- the kind, then the number of fields, and then the checks of that kind
unfoldable pub check_kind : Option Word → Setting → Stated → Row → Option InputKind
check_kind None g st row = Some kind.UnknownKind
check_kind (Some w) g st row = option_or (need (fields_fit w row) kind.WrongLength) (check_word w g st row)

-- the first failed check of a record, after what the records before it stated
unfoldable pub check_next : Setting → Stated → Row → Option InputKind
check_next g st row =
    if length row == 0 then None
    else if not (list_all is_utf8 row) then Some kind.NotUtf8
    else check_kind (word_of (field row 0)) g st row

-- the first failed check of a record, after these
unfoldable pub check_record : Setting → List Row → Row → Option InputKind
check_record g earlier row = check_next g (stated_by g earlier) row

-- the number of the first unlawful record of a text with its first failed check
abbrev pub quotas_fault : Setting → List Row → Option (ℕ × InputKind)
quotas_fault g rows = fault_after (check_record g) (λ _. None) [] rows

-- the family that some records state; for `solve` it has one more column, that of `none`
abbrev pub family_of : Setting → Stated → FamilyValue
family_of g st = record { agents = length g.agents; columns = length g.objects + (if g.solve then 1 else 0); sets = st.sets }

-- ---- from bytes

-- the records of the text are lawful, and this is the family that they state
abbrev pub TextReadsAsFamily : Setting → List ℕ → FamilyValue → Type 0
TextReadsAsFamily g bytes f = (rows : List Row) × IsTextOf bytes rows × (quotas_fault g rows ≡ None) × (f ≡ family_of g (stated_by g rows))

-- the records of the text are lawful, and these are the demands that they state
abbrev pub TextReadsAsDemands : Setting → List ℕ → List ℕ → Type 0
TextReadsAsDemands g bytes demands = (rows : List Row) × IsTextOf bytes rows × (quotas_fault g rows ≡ None) × (demands ≡ (stated_by g rows).demands)

-- the text's first unlawful record, from 1, with its first failed check
abbrev pub QuotasHaveFault : Setting → List ℕ → ℕ → InputKind → Type 0
QuotasHaveFault g bytes record_no kind = (rows : List Row) × IsTextOf bytes rows × (quotas_fault g rows ≡ Some (record_no, kind))

-- a text of quotas, the second file, is refused for its fault; for want of memory at any text
abbrev pub QuotasRefusedFor : Setting → List ℕ → InputRefusal → Type 0
QuotasRefusedFor g bytes (refusal.Fault f) = (f.file ≡ 2) × QuotasHaveFault g bytes f.record_no f.kind
QuotasRefusedFor g bytes refusal.NoMemory = Unit {0}

-- for `decompose` there are at most 200 objects, and for `solve` they are those that the text declares
abbrev pub AreObjectsFor : Mode → List ℕ → List (List ℕ) → Type 0
AreObjectsFor mode.Decompose bytes objects = length objects ≤ 200
AreObjectsFor mode.Solve bytes objects = (rows : List Row) → IsTextOf bytes rows → objects ≡ declared rows

-- the agents and objects that a text of quotas is read for
pub record IsReadFor (mode : Mode) (bytes : List ℕ) (agents objects : List (List ℕ)) : Type 0 where
  pub some : 1 ≤ length agents
  pub many : length agents ≤ 1000
  pub apart : has_name objects null_name ≡ false
  pub due : AreObjectsFor mode bytes objects
