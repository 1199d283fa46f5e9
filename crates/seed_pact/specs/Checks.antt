-- The checks of a pact's records, kind by kind, in their order.
use Rattle.std.specs.Prelude.{◌==◌, ◌&&◌, ℕ, Bool, not, List, [], ◌∷◌, Option, Some, None, length, codes, unwrap_or, if◌then◌else◌, nat_lt, is_some, is_none}
use Rattle.std.specs.List.{list_all}
use Rattle.std.specs.Str.{bytes_eq, is_utf8}
use Rattle.definitions.specs.Firsts.{fault_after, tests}
use Rattle.definitions.specs.Texts.{Row, field, first_field, is_name}
use Rattle.seed_pact.specs.Commitments.{spelled, commitment_of}
use Rattle.seed_pact.specs.Said.{Before, EntriesValue, entry_of, word_of, name_in, bytes_in, said_by}
use Rattle.seed_pact.specs.declared.faults.PactKind.{PactKind}
use Rattle.seed_pact.specs.declared.faults.PactKind.TheVariants as kind
use Rattle.seed_pact.specs.declared.words.Word.{Word}
use Rattle.seed_pact.specs.declared.words.Word.TheVariants as word

-- whether a record of this kind may come: `pact` comes first, no commitment after a contribution, and no contribution before a commitment
unfoldable pub may_come : Word → Before → Bool
may_come word.Pact b = not b.has_head
may_come word.Commit b = b.has_head && (length b.reveals.names == 0)
may_come word.Reveal b = b.has_head && nat_lt 0 (length b.commits.names)

unfoldable pub check_pact : Row → Option PactKind
check_pact row = tests (
    (length row == 2, kind.WrongLength)
    ∷ (bytes_eq (field row 1) (codes "1"), kind.UnknownVersion) ∷ []) None

-- after these commitments
unfoldable pub check_commit : EntriesValue → Row → Option PactKind
check_commit commits row = tests (
    (length row == 3, kind.WrongLength)
    ∷ (is_name (name_in row), kind.BadName)
    ∷ (is_none (entry_of commits (name_in row)), kind.RepeatedName)
    ∷ (nat_lt (length commits.names) 1000, kind.OverLimit)
    ∷ (is_some (spelled (field row 2)), kind.BadHex) ∷ []) None

-- after these commitments, and after what is revealed already
unfoldable pub check_reveal : (commits reveals : EntriesValue) → Row → Option PactKind
check_reveal commits reveals row = tests (
    (length row == 3, kind.WrongLength)
    ∷ (is_some (entry_of commits (name_in row)), kind.UnknownName)
    ∷ (is_none (entry_of reveals (name_in row)), kind.RepeatedReveal)
    ∷ (is_some (spelled (field row 2)), kind.BadHex)
    ∷ (bytes_eq (commitment_of (name_in row) (bytes_in row)) (unwrap_or (entry_of commits (name_in row)) []), kind.Mismatch) ∷ []) None

-- a record of this kind, which may come
unfoldable pub check_word : Word → Before → Row → Option PactKind
check_word word.Pact b row = check_pact row
check_word word.Commit b row = check_commit b.commits row
check_word word.Reveal b row = check_reveal b.commits b.reveals row

-- a record with fields that are text
unfoldable pub check_kind : Option Word → Before → Row → Option PactKind
check_kind None b row = Some kind.WrongOrder
check_kind (Some w) b row = tests ((may_come w b, kind.WrongOrder) ∷ []) (check_word w b row)

-- the first failed check of a record, after what the records before it say
unfoldable pub check_next : Before → Row → Option PactKind
check_next b row =
    if length row == 0 then None
    else if not (list_all is_utf8 row) then Some kind.NotUtf8
    else check_kind (word_of (first_field row)) b row

-- the first failed check of a record, after these
unfoldable pub check_record : List Row → Row → Option PactKind
check_record earlier row = check_next (said_by earlier) row

-- whether every name of a commitment has revealed
abbrev pub all_reveal : Before → Bool
all_reveal b = list_all (λ name. is_some (entry_of b.reveals name)) b.commits.names

-- in the end there is a commitment, and every name has revealed
unfoldable pub check_whole : Before → Option PactKind
check_whole b = tests (
    (nat_lt 0 (length b.commits.names), kind.Missing)
    ∷ (all_reveal b, kind.Missing) ∷ []) None

-- the fault of records that are lawful and end too early
unfoldable pub check_end : List Row → Option PactKind
check_end rows = check_whole (said_by rows)

-- the number of the first unlawful record with its first failed check, or the fault at the end
abbrev pub fault_of : List Row → Option (ℕ × PactKind)
fault_of rows = fault_after check_record check_end [] rows
