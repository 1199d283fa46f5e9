-- A pact as one value, and how a text reads as one.
use Rattle.std.specs.Prelude.{◌≡◌, ℕ, List, [], Some, None, map, unwrap_or}
use Rattle.std.specs.List.{AllZip, Contains}
use Rattle.definitions.specs.Texts.{Row, field}
use Rattle.table_text.specs.Rows.{IsTextOf}
use Rattle.seed_pact.specs.Commitments.{spelled, commitment_of}
use Rattle.seed_pact.specs.Said.{Before, commits_in, entry_of, name_in, reveals_in, said_by}
use Rattle.seed_pact.specs.Checks.{fault_of}
use Rattle.seed_pact.specs.declared.Pact.{Pact}
use Rattle.seed_pact.specs.declared.faults.PactKind.{PactKind}
use Rattle.seed_pact.specs.declared.faults.PactRefusal.{PactRefusal}
use Rattle.seed_pact.specs.declared.faults.PactRefusal.TheVariants as refusal

-- the names in the order of their commitments, and the contribution of each
pub record PactValue : Type 0 where
  pub names : List (List ℕ)
  pub contributions : List (List ℕ)

-- what clients see of a pact
abbrev pub pact_value : Pact → PactValue
pact_value p = record { names = p.names; contributions = p.contributions.items }

-- what each name has revealed, in the order of the commitments
abbrev pub contributions_of : Before → List (List ℕ)
contributions_of b = map (λ name. unwrap_or (entry_of b.reveals name) []) b.commits.names

-- the pact that these records say, where they are whole and lawful
abbrev pub pact_of : Before → PactValue
pact_of b = record { names = b.commits.names; contributions = contributions_of b }

-- the records are lawful, and this is what they say
abbrev pub ReadsAs : List Row → PactValue → Type 0
ReadsAs rows p = (fault_of rows ≡ None) × (p ≡ pact_of (said_by rows))

-- the records of the text read as the pact
abbrev pub TextReadsAs : List ℕ → PactValue → Type 0
TextReadsAs bytes p = (rows : List Row) × IsTextOf bytes rows × ReadsAs rows p

-- the text's first unlawful record, from 1, with its first failed check; or the fault after the last record
abbrev pub TextHasFault : List ℕ → ℕ → PactKind → Type 0
TextHasFault bytes record_no kind = (rows : List Row) × IsTextOf bytes rows × (fault_of rows ≡ Some (record_no, kind))

-- a text is refused for its fault; for want of memory at any text
abbrev pub RefusedFor : List ℕ → PactRefusal → Type 0
RefusedFor bytes (refusal.Fault f) = TextHasFault bytes f.record_no f.kind
RefusedFor bytes refusal.NoMemory = Unit {0}

-- ---- in the words of the records alone

-- a record reveals this contribution under the name
abbrev pub Reveals : List Row → List ℕ → List ℕ → Type 0
Reveals rows name contribution = (r : Row) × Contains (reveals_in rows) r × (name_in r ≡ name) × (spelled (field r 2) ≡ Some contribution)

-- the contribution is revealed under the name that commits, and the commitment is that of the two
abbrev pub IsKept : List Row → Row → List ℕ → Type 0
IsKept rows commit contribution = Reveals rows (name_in commit) contribution × (spelled (field commit 2) ≡ Some (commitment_of (name_in commit) contribution))

-- the names are those that commit, in their order, and each contribution is kept
pub record IsKeptBy (rows : List Row) (p : PactValue) : Type 0 where
  pub names : p.names ≡ map name_in (commits_in rows)
  pub kept : AllZip (IsKept rows) (commits_in rows) p.contributions
