-- What the parts of the reader answer.
use Rattle.std.specs.Prelude.{◌≡◌, ℕ, false, List, Option, Some, None, Result, MatchResult}
use Rattle.definitions.specs.Texts.{Row, first_field, has_name}
use Rattle.seed_pact.specs.Said.{Before, EntriesValue, add, add_word, bytes_in, name_in, word_of}
use Rattle.seed_pact.specs.Checks.{check_next, check_word, fault_of}
use Rattle.seed_pact.specs.Pacts.{pact_value, ReadsAs}
use Rattle.seed_pact.specs.declared.Pact.{Pact}
use Rattle.seed_pact.specs.declared.entries.Entry.{Entry}
use Rattle.seed_pact.specs.declared.faults.PactKind.{PactKind}
use Rattle.seed_pact.specs.declared.faults.PactRefusal.{PactRefusal}
use Rattle.seed_pact.specs.declared.faults.PactRefusal.TheVariants as refusal
use Rattle.seed_pact.specs.declared.faults.Stop.{Stop}
use Rattle.seed_pact.specs.declared.faults.Stop.TheVariants as stop
use Rattle.seed_pact.specs.declared.records.State.{State}
use Rattle.seed_pact.specs.declared.words.Word.{Word}

-- what a state of the reader holds
unfoldable pub held : State → Before
held s = record { has_head = s.has_head; commits = s.commits; reveals = s.reveals }

-- what a stop says of the first failed check
abbrev pub StopsAt : Stop → Option PactKind → Type 0
StopsAt (stop.Unlawful k) check = check ≡ Some k
StopsAt stop.NoMemory check = Unit {0}

-- a check passes, and what was read is as P says; or it fails with the kind that comes first
abbrev pub Reads : {X : Type 0} → Result X PactKind → Option PactKind → (X → Type 0) → Type 0
Reads r check P = MatchResult r (λ x. (check ≡ None) × P x) (λ k. check ≡ Some k)

-- an entry as a record says it, whose name is new among these
pub record IsNewEntry (entries : EntriesValue) (row : Row) (e : Entry) : Type 0 where
  pub name : e.name.now ≡ name_in row
  pub value : e.value ≡ bytes_in row
  pub fresh : has_name entries.names (name_in row) ≡ false

-- a check passes and leaves what P says, or it fails with the kind that comes first; or memory is refused
abbrev pub Checks : {X : Type 0} → Result X Stop → Option PactKind → (X → Type 0) → Type 0
Checks r check P = MatchResult r (λ x. (check ≡ None) × P x) (λ e. StopsAt e check)

-- a record of this kind, checked and added
abbrev pub Takes : Word → Row → State → Result (Unit {0}) Stop → State → Type 0
Takes w row s r s2 = Checks r (check_word w (held s) row) (λ _. held s2 ≡ add w row (held s))

-- a record, checked and added
abbrev pub TakesRecord : Row → State → Result (Unit {0}) Stop → State → Type 0
TakesRecord row s r s2 = Checks r (check_next (held s) row) (λ _. held s2 ≡ add_word (word_of (first_field row)) row (held s))

-- a stop at record n is told
abbrev pub IsRefusalFor : Stop → ℕ → PactRefusal → Type 0
IsRefusalFor (stop.Unlawful k) n r = r ≡ refusal.Fault (record { record_no = n; kind = k })
IsRefusalFor stop.NoMemory n r = r ≡ refusal.NoMemory

-- what a refusal says of the fault
abbrev pub Tells : PactRefusal → Option (ℕ × PactKind) → Type 0
Tells (refusal.Fault f) fault = fault ≡ Some (f.record_no, f.kind)
Tells refusal.NoMemory fault = Unit {0}

-- the pact of the records, where they are lawful, or exactly their fault
abbrev pub ReadsRecords : List Row → Result Pact PactRefusal → Type 0
ReadsRecords rows r = MatchResult r (λ p. ReadsAs rows (pact_value p)) (λ e. Tells e (fault_of rows))
