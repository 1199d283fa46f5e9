-- How a text of a matrix reads: agents, objects, and a share of each agent in each object.
use Rattle.std.specs.Prelude.{◌≡◌, ◌≤◌, ◌+◌, ◌*◌, ◌&&◌, ◌∷◌, ℕ, true, false, not, List, [], Option, Some, None, All, length, map, flat_map, drop, codes, nat_lt, nat_le, is_none, unwrap_or, slice_index_or, if◌then◌else◌}
use Rattle.std.specs.List.{AllZip, IsDistinct, list_all}
use Rattle.std.specs.Str.{bytes_eq, is_utf8}
use Rattle.definitions.specs.Firsts.{fault_after, first_among, tests}
use Rattle.definitions.specs.Lotteries.{ends_with_none}
use Rattle.definitions.specs.Texts.{Row, field, first_field, is_name, name_index, has_name, null_name, share_of}
use Rattle.definitions.specs.Values.{Ratio, SharesValue}
use Rattle.table_text.specs.Rows.{IsTextOf}
use Rattle.scaled_matrix.specs.Entries.{IsShares}
use Rattle.alloc_input.specs.Cells.{numbers_to}
use Rattle.alloc_input.specs.Checks.{need}
use Rattle.alloc_input.specs.Prefs.{is_blank, filled_rows, has_header, agent_rows, agents_of, check_end}
use Rattle.alloc_input.specs.Quotas.{IsReadFor}
use Rattle.alloc_input.specs.declared.faults.InputKind.{InputKind}
use Rattle.alloc_input.specs.declared.faults.InputKind.TheVariants as kind
use Rattle.alloc_input.specs.declared.faults.InputRefusal.{InputRefusal}
use Rattle.alloc_input.specs.declared.faults.InputRefusal.TheVariants as refusal
use Rattle.alloc_input.specs.declared.mode.Mode.TheVariants as mode

-- ---- the header

-- the first record that is not skipped
abbrev pub header_of : List Row → Row
header_of rows = slice_index_or (filled_rows rows) 0 []

-- its fields after the first are the objects
abbrev pub objects_of : List Row → List (List ℕ)
objects_of rows = drop 1 (header_of rows)

-- an object of the header, after these: a new lawful name other than `none`, and at most the 200th
unfoldable pub check_heading : List (List ℕ) → List ℕ → Option InputKind
check_heading earlier name = tests (
    (is_name name && not (bytes_eq name null_name), kind.BadName)
    ∷ (is_none (name_index earlier name), kind.RepeatedName)
    ∷ (nat_lt (length earlier) 200, kind.OverLimit) ∷ []) None

-- the header: `agent`, and then the objects from left to right
unfoldable pub check_header : Row → Option InputKind
check_header row = tests ((bytes_eq (first_field row) (codes "agent"), kind.NoHeader) ∷ []) (first_among check_heading (drop 1 row))

-- ---- one agent's row

-- the texts of an agent's entries, one for each object; one that is missing is empty
abbrev pub entry_texts : ℕ → Row → List (List ℕ)
entry_texts columns row = map (λ a. field row (a + 1)) (numbers_to columns)

-- a share that is there is at most 1,000
abbrev pub check_share : Option Ratio → Option InputKind
check_share None = Some kind.BadNumber
check_share (Some s) = need (nat_le s.num (1000 * s.den)) kind.OverLimit

-- an entry is a share of at most 1,000
unfoldable pub check_entry : List ℕ → Option InputKind
check_entry text = check_share (share_of text)

-- the entries from left to right
unfoldable pub check_entries : ℕ → Row → Option InputKind
check_entries columns row = first_among (λ _. check_entry) (entry_texts columns row)

-- the share that an entry gives, as it is written, which is not in lowest terms
abbrev pub share_in : List ℕ → Ratio
share_in text = unwrap_or (share_of text) (record { num = 0; den = 1 })

-- the shares of an agent
abbrev pub shares_of : ℕ → Row → List Ratio
shares_of columns row = map share_in (entry_texts columns row)

-- the record of an agent, after those of these agents
unfoldable pub check_shares : List (List ℕ) → List (List ℕ) → Row → Option InputKind
check_shares objects agents row = tests (
    (is_name (first_field row), kind.BadName)
    ∷ (is_none (name_index agents (first_field row)), kind.RepeatedAgent)
    ∷ (nat_lt (length agents) 1000, kind.OverLimit)
    ∷ (nat_le (length (drop 1 row)) (length objects), kind.WrongLength) ∷ [])
    (check_entries (length objects) row)

-- ---- records

-- the first failed check of a record, after those before it
unfoldable pub check_matrix : List Row → Row → Option InputKind
check_matrix before row =
    if is_blank row then None
    else tests ((list_all is_utf8 row, kind.NotUtf8) ∷ [])
    (if has_header before then check_shares (objects_of before) (agents_of before) row else check_header row)

-- the number of the first unlawful record, from 1, with its first failed check; or the fault at the number of records plus 1
abbrev pub matrix_fault : List Row → Option (ℕ × InputKind)
matrix_fault rows = fault_after check_matrix check_end [] rows

-- the shares of all agents, row by row
unfoldable pub all_shares : List Row → List Ratio
all_shares rows = flat_map (shares_of (length (objects_of rows))) (agent_rows rows)

-- the two have one value
abbrev pub IsSameShare : Ratio → Ratio → Type 0
IsSameShare r s = r.num * s.den ≡ s.num * r.den

-- the records are lawful, and these are the agents, the objects, and for each cell its share, row by row
pub record ReadsAsMatrix (rows : List Row) (m : SharesValue) : Type 0 where
  pub lawful : matrix_fault rows ≡ None
  pub agents_read : m.agents ≡ agents_of rows
  pub objects_read : m.objects ≡ objects_of rows
  pub entries_read : AllZip IsSameShare m.entries (all_shares rows)

-- ---- from bytes

-- the text reads as this matrix
abbrev pub MatrixReads : List ℕ → SharesValue → Type 0
MatrixReads bytes m = (rows : List Row) × IsTextOf bytes rows × ReadsAsMatrix rows m

-- the text's first unlawful record, from 1, with its first failed check; or the fault after the last record
abbrev pub MatrixHasFault : List ℕ → ℕ → InputKind → Type 0
MatrixHasFault bytes record_no kind = (rows : List Row) × IsTextOf bytes rows × (matrix_fault rows ≡ Some (record_no, kind))

-- a text of a matrix, the first file, is refused for its fault; for want of memory at any text
abbrev pub MatrixRefusedFor : List ℕ → InputRefusal → Type 0
MatrixRefusedFor bytes (refusal.Fault f) = (f.file ≡ 1) × MatrixHasFault bytes f.record_no f.kind
MatrixRefusedFor bytes refusal.NoMemory = Unit {0}

-- ---- what a lawful text gives

-- distinct lawful names
pub record AreLawfulNames (names : List (List ℕ)) : Type 0 where
  pub lawful : All (λ name. is_name name ≡ true) names
  pub distinct : IsDistinct bytes_eq names

-- 1 to 1,000 agents and at most 200 objects, none of them `none`, and a share of at most 1,000 in lowest terms for each cell
pub record IsMatrix (m : SharesValue) : Type 0 where
  pub agents_some : 1 ≤ length m.agents
  pub agents_limit : length m.agents ≤ 1000
  pub agents_named : AreLawfulNames m.agents
  pub objects_limit : length m.objects ≤ 200
  pub objects_named : AreLawfulNames m.objects
  pub objects_apart : has_name m.objects null_name ≡ false
  pub shares : IsShares m

-- over its names quotas may be read for `decompose`, from any text, and its last object is not `none`
abbrev pub LawfulMatricesSuit : Type 0
LawfulMatricesSuit = (m : SharesValue) → IsMatrix m → ((bytes : List ℕ) → IsReadFor mode.Decompose bytes m.agents m.objects) × (ends_with_none m.objects ≡ false)
