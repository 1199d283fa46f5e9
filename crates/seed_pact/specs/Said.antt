-- What the records of a pact say.
use Rattle.std.specs.Prelude.{ℕ, Bool, true, List, [], ◌∷◌, ◌++◌, Option, Some, None, map, codes, option_map, unwrap_or, slice_index_or, if◌then◌else◌}
use Rattle.std.specs.List.{list_any}
use Rattle.std.specs.Str.{bytes_eq}
use Rattle.definitions.specs.Texts.{Row, field, name_index}
use Rattle.table_text.specs.Records.{begins_with, records_of}
use Rattle.seed_pact.specs.Commitments.{spelled}
use Rattle.seed_pact.specs.declared.words.Word.{Word}
use Rattle.seed_pact.specs.declared.words.Word.TheVariants as word

-- names in order, and what stands with each
pub record EntriesValue : Type 0 where
  pub names : List (List ℕ)
  pub values : List (List ℕ)

abbrev pub no_entries : EntriesValue
no_entries = record { names = []; values = [] }

-- one more name
abbrev pub with_entry : List ℕ → List ℕ → EntriesValue → EntriesValue
with_entry name value e = record { names = e.names ++ name ∷ []; values = e.values ++ value ∷ [] }

-- what stands with a name
unfoldable pub entry_of : EntriesValue → List ℕ → Option (List ℕ)
entry_of e name = option_map (λ k. slice_index_or e.values k []) (name_index e.names name)

-- the kind of a record, by its first field
unfoldable pub word_of : List ℕ → Option Word
word_of f =
    if bytes_eq f (codes "pact") then Some word.Pact
    else if bytes_eq f (codes "commit") then Some word.Commit
    else if bytes_eq f (codes "reveal") then Some word.Reveal
    else None

-- the name in a record
abbrev pub name_in : Row → List ℕ
name_in row = field row 1

-- the bytes that a record spells
abbrev pub bytes_in : Row → List ℕ
bytes_in row = unwrap_or (spelled (field row 2)) []

-- the names in some records, and the bytes that they spell
abbrev pub entries_in : List Row → EntriesValue
entries_in rows = record { names = map name_in rows; values = map bytes_in rows }

-- the records that commit
abbrev pub commits_in : List Row → List Row
commits_in rows = records_of (codes "commit") rows

-- the records that reveal
abbrev pub reveals_in : List Row → List Row
reveals_in rows = records_of (codes "reveal") rows

-- what the records before one say: whether the first is there, the commitments, and the contributions revealed
pub record Before : Type 0 where
  pub has_head : Bool
  pub commits : EntriesValue
  pub reveals : EntriesValue

-- what these records say
unfoldable pub said_by : List Row → Before
said_by rows = record {
  has_head = list_any (begins_with (codes "pact")) rows;
  commits = entries_in (commits_in rows);
  reveals = entries_in (reveals_in rows);
}

-- what a record of this kind adds
unfoldable pub add : Word → Row → Before → Before
add word.Pact row b = record b { has_head = true }
add word.Commit row b = record b { commits = with_entry (name_in row) (bytes_in row) b.commits }
add word.Reveal row b = record b { reveals = with_entry (name_in row) (bytes_in row) b.reveals }

-- what a record adds, where its first field is that of this kind, or of none
unfoldable pub add_word : Option Word → Row → Before → Before
add_word None row b = b
add_word (Some w) row b = add w row b
