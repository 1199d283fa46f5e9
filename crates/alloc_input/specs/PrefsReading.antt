-- What the parts of the reader of preferences answer.
use Rattle.std.specs.Prelude.{◌≡◌, ◌==◌, ◌<◌, ◌≤◌, ℕ, Bool, All, length, List, [], ◌∷◌, ◌++◌, Result, map, Vec, MatchResult, slice_index}
use Rattle.std.specs.List.{list_any}
use Rattle.std.specs.Str.{bytes_eq}
use Rattle.std.specs.declared.alloc.Global.{Global}
use Rattle.definitions.specs.Texts.{Row, null_name}
use Rattle.definitions.specs.Values.{IsListUpTo}
use Rattle.alloc_input.specs.Prefs.{columns_of, check_choice, check_record, has_header, agents_of, lists_of, fault_of, ReadAs}
use Rattle.alloc_input.specs.Checks.{Checks, Tells}
use Rattle.alloc_input.specs.declared.faults.InputRefusal.{InputRefusal}
use Rattle.alloc_input.specs.declared.faults.Stop.{Stop}
use Rattle.alloc_input.specs.declared.prefs.Preferences.{Preferences}
use Rattle.alloc_input.specs.declared.prefs.State.{State}

-- 1 to 1,000 agents, and for each a lawful list over so many objects
pub record ArePreferences (objects : ℕ) (agents lists : List (List ℕ)) : Type 0 where
  pub some : 1 ≤ length agents
  pub many : length agents ≤ 1000
  pub lists_many : length lists ≡ length agents
  pub lists_lawful : All (IsListUpTo objects) lists

-- lists of columns, as contracts see them
abbrev pub column_lists : Vec (Vec ℕ Global) Global → List (List ℕ)
column_lists lists = map (λ list. list.items) lists.items

-- the columns, and whether `none` ended the list, after these choices
abbrev pub IsAfterChoices : List (List ℕ) → List (List ℕ) → List ℕ → Bool → Type 0
IsAfterChoices objects earlier columns closed = (columns ≡ columns_of objects earlier) × (closed ≡ list_any (λ f. bytes_eq f null_name) earlier)

-- for each object the number of the last agent, from 1, whose list has it, or 0; none is later than this agent
pub record AreStamps (objects agent : ℕ) (stamps : List ℕ) : Type 0 where
  pub wide : length stamps ≡ objects
  pub early : (k : ℕ) → slice_index stamps k ≤ agent

-- the objects with this agent's stamp are those on its list so far
abbrev pub ShowList : ℕ → List ℕ → List ℕ → Type 0
ShowList agent stamps columns = (k : ℕ) → k < length stamps → (slice_index stamps k == agent) ≡ list_any (λ j. j == k) columns

-- one more choice, after any earlier ones that the columns stand for
abbrev pub TakesChoice : List (List ℕ) → List ℕ → List ℕ → Bool → Result (Unit {0}) Stop → List ℕ → Bool → Type 0
TakesChoice objects choice columns closed r columns2 closed2 = (earlier : List (List ℕ)) → IsAfterChoices objects earlier columns closed
    → Checks r (check_choice objects earlier choice) (λ _. IsAfterChoices objects (earlier ++ choice ∷ []) columns2 closed2)

-- the state after these records
abbrev pub IsAfter : List (List ℕ) → List Row → State → Type 0
IsAfter objects rows s = (s.header ≡ has_header rows) × (s.agents ≡ agents_of rows) × (column_lists s.lists ≡ lists_of objects rows)

-- one more record, after any earlier ones that the state stands for
abbrev pub TakesRecord : List (List ℕ) → Row → State → Result (Unit {0}) Stop → State → Type 0
TakesRecord objects row s r s2 = (earlier : List Row) → IsAfter objects earlier s
    → Checks r (check_record objects earlier row) (λ _. IsAfter objects (earlier ++ row ∷ []) s2)

-- what the records of preferences state, where they are lawful, or exactly their fault
abbrev pub ReadsPreferences : List (List ℕ) → List Row → Result Preferences InputRefusal → Type 0
ReadsPreferences objects rows r = MatchResult r
    (λ v. ReadAs objects rows v.agents (column_lists v.lists))
    (λ e. Tells 1 e (fault_of objects rows))
