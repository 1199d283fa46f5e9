-- What the parts of the reader answer.
use Rattle.std.specs.Prelude.{◌≡◌, ℕ, List, Option, Some, None, Result, map, MatchResult}
use Rattle.std.specs.Str.{bytes_eq}
use Rattle.definitions.specs.Texts.{Row, field, first_field, null_name, number, signed}
use Rattle.definitions.specs.declared.Give.{Give}
use Rattle.lottery_file.specs.Said.{Before, add, add_word, agent_at, column_at, word_of, said_by}
use Rattle.lottery_file.specs.Checks.{check_next, check_word, fault_of}
use Rattle.lottery_file.specs.declared.checks.Place.{Place}
use Rattle.lottery_file.specs.declared.faults.LotteryKind.{LotteryKind}
use Rattle.lottery_file.specs.declared.faults.LotteryRefusal.{LotteryRefusal}
use Rattle.lottery_file.specs.declared.faults.LotteryRefusal.TheVariants as refusal
use Rattle.lottery_file.specs.declared.faults.Stop.{Stop}
use Rattle.lottery_file.specs.declared.faults.Stop.TheVariants as stop
use Rattle.lottery_file.specs.declared.words.Word.{Word}
use Rattle.lottery_file.specs.declared.state.State.{State}

-- what a state of the reader holds
unfoldable pub held : State → Before
held s = record {
  last = s.last;
  denominator = s.denominator;
  agents = s.agents;
  columns = s.columns;
  rows = s.rows;
  units = s.units;
  prices = s.prices.items;
  lists = map (λ list. list.items) s.lists.items;
  open_list = s.open_list.items;
  worths = map (λ worths. worths.items) s.worths.items;
  open_worths = s.open_worths.items;
  pieces = s.pieces;
}

-- what a stop says of the first failed check
abbrev pub StopsAt : Stop → Option LotteryKind → Type 0
StopsAt (stop.Unlawful k) check = check ≡ Some k
StopsAt stop.NoMemory check = Unit {0}

-- a check passes, and what was read is as P says; or it fails with the kind that comes first
abbrev pub Reads : {X : Type 0} → Result X LotteryKind → Option LotteryKind → (X → Type 0) → Type 0
Reads r check P = MatchResult r (λ x. (check ≡ None) × P x) (λ k. check ≡ Some k)

-- a place of a list as a record says it
pub record IsPlaceIn (b : Before) (row : Row) (p : Place) : Type 0 where
  pub column : p.column ≡ column_at b (field row 2)
  pub worth : p.worth ≡ signed (field row 3)
  pub last : p.is_last ≡ bytes_eq (field row 2) null_name

-- a give as a record says it
pub record IsGiveIn (b : Before) (row : Row) (g : Give) : Type 0 where
  pub agent : g.agent ≡ agent_at b (field row 1)
  pub object : g.object ≡ column_at b (field row 2)
  pub count : g.count ≡ number (field row 3)

-- a check passes and leaves what P says, or it fails with the kind that comes first; or memory is refused
abbrev pub Checks : {X : Type 0} → Result X Stop → Option LotteryKind → (X → Type 0) → Type 0
Checks r check P = MatchResult r (λ x. (check ≡ None) × P x) (λ e. StopsAt e check)

-- a record of this kind, checked and added
abbrev pub Takes : Word → Row → State → Result (Unit {0}) Stop → State → Type 0
Takes w row s r s2 = Checks r (check_word w (held s) row) (λ _. held s2 ≡ add w row (held s))

-- a record, checked and added
abbrev pub TakesRecord : Row → State → Result (Unit {0}) Stop → State → Type 0
TakesRecord row s r s2 = Checks r (check_next (held s) row) (λ _. held s2 ≡ add_word (word_of (first_field row)) row (held s))

-- a stop at record n is told
abbrev pub IsRefusalFor : Stop → ℕ → LotteryRefusal → Type 0
IsRefusalFor (stop.Unlawful k) n r = r ≡ refusal.Fault (record { record_no = n; kind = k })
IsRefusalFor stop.NoMemory n r = r ≡ refusal.NoMemory

-- what a refusal says of the fault
abbrev pub Tells : LotteryRefusal → Option (ℕ × LotteryKind) → Type 0
Tells (refusal.Fault f) fault = fault ≡ Some (f.record_no, f.kind)
Tells refusal.NoMemory fault = Unit {0}

-- what the records say, where they are lawful, or exactly their fault
abbrev pub ReadsRecords : List Row → Result State LotteryRefusal → Type 0
ReadsRecords rows r = MatchResult r
    (λ s. (fault_of rows ≡ None) × (held s ≡ said_by rows))
    (λ e. Tells e (fault_of rows))
