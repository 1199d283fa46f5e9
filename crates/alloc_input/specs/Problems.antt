-- How preferences and quotas read as a problem.
use Rattle.std.specs.Prelude.{◌≡◌, ◌<◌, ◌≤◌, ℕ, true, List, Option, Some, None, Result, All, MatchResult, length, option_map}
use Rattle.std.specs.List.{Any}
use Rattle.std.specs.Option.{option_or}
use Rattle.definitions.specs.Sets.{cells_in}
use Rattle.definitions.specs.Texts.{Row}
use Rattle.definitions.specs.Values.{ProblemValue, IsStatedSet, HoldsColumn}
use Rattle.table_text.specs.Rows.{IsTextOf}
use Rattle.quota_sets.specs.Parts.{AreDemands, problem_from}
use Rattle.alloc_input.specs.Checks.{Tells}
use Rattle.alloc_input.specs.Objects.{declared}
use Rattle.alloc_input.specs.Prefs.{agents_of, lists_of, fault_of}
use Rattle.alloc_input.specs.Quotas.{quotas_fault, family_of}
use Rattle.alloc_input.specs.Stated.{Setting, Stated, setting_of, stated_by}
use Rattle.alloc_input.specs.declared.faults.InputKind.{InputKind}
use Rattle.alloc_input.specs.declared.faults.InputRefusal.{InputRefusal}
use Rattle.alloc_input.specs.declared.faults.InputRefusal.TheVariants as refusal
use Rattle.alloc_input.specs.declared.quotas.solve.SolveQuotas.{SolveQuotas}

-- what the quotas of a problem speak of: the agents of the preferences, and the objects that the quotas declare
abbrev pub solve_setting : List Row → List Row → Setting
solve_setting rows quota_rows = setting_of (agents_of rows) (declared quota_rows) true

-- the problem that lawful records of preferences and of quotas state
abbrev pub problem_of : List Row → List Row → ProblemValue
problem_of rows quota_rows =
    problem_from (agents_of rows) (declared quota_rows) (lists_of (declared quota_rows) rows)
    (stated_by (solve_setting rows quota_rows) quota_rows).demands
    (family_of (solve_setting rows quota_rows) (stated_by (solve_setting rows quota_rows) quota_rows))

-- a fault with its file
abbrev pub in_file : ℕ → Option (ℕ × InputKind) → Option (ℕ × ℕ × InputKind)
in_file file fault = option_map (λ f. (file, f.0, f.1)) fault

-- the first fault: that of the preferences, which are file 1, or else that of the quotas, which are file 2
abbrev pub problem_fault : List Row → List Row → Option (ℕ × ℕ × InputKind)
problem_fault rows quota_rows = option_or (in_file 1 (fault_of (declared quota_rows) rows)) (in_file 2 (quotas_fault (solve_setting rows quota_rows) quota_rows))

-- the records are lawful, and this is the problem that they state
abbrev pub RowsReadAs : List Row → List Row → ProblemValue → Type 0
RowsReadAs rows quota_rows p = (problem_fault rows quota_rows ≡ None) × (p ≡ problem_of rows quota_rows)

-- the texts of preferences and of quotas read as the problem
abbrev pub ProblemReads : List ℕ → List ℕ → ProblemValue → Type 0
ProblemReads prefs quotas p = (rows : List Row) × (quota_rows : List Row) × IsTextOf prefs rows × IsTextOf quotas quota_rows × RowsReadAs rows quota_rows p

-- the first unlawful record of the texts, by its file and its number from 1, and its first failed check; or the fault after the last record
abbrev pub ProblemHasFault : List ℕ → List ℕ → ℕ → ℕ → InputKind → Type 0
ProblemHasFault prefs quotas file record_no kind =
    (rows : List Row) × (quota_rows : List Row) × IsTextOf prefs rows × IsTextOf quotas quota_rows × (problem_fault rows quota_rows ≡ Some (file, record_no, kind))

-- texts are refused for their first fault; for want of memory any texts
abbrev pub ProblemRefusedFor : List ℕ → List ℕ → InputRefusal → Type 0
ProblemRefusedFor prefs quotas (refusal.Fault f) = ProblemHasFault prefs quotas f.file f.record_no f.kind
ProblemRefusedFor prefs quotas refusal.NoMemory = Unit {0}

-- ---- what the parts of the reader answer

-- what a refusal says of the fault of the records of both files
abbrev pub TellsOf : InputRefusal → Option (ℕ × ℕ × InputKind) → Type 0
TellsOf (refusal.Fault f) fault = fault ≡ Some (f.file, f.record_no, f.kind)
TellsOf refusal.NoMemory fault = Unit {0}

-- the problem that the records of both files state, where they are lawful, or exactly their fault
abbrev pub ReadsProblem : List Row → List Row → Result ProblemValue InputRefusal → Type 0
ReadsProblem rows quota_rows r = MatchResult r (λ p. RowsReadAs rows quota_rows p) (λ e. TellsOf e (problem_fault rows quota_rows))

-- the sets and demands that quotas for `solve` state, where they are lawful, or exactly their fault
abbrev pub StatesForSolve : List (List ℕ) → List (List ℕ) → List Row → Result SolveQuotas InputRefusal → Type 0
StatesForSolve agents objects rows r = MatchResult r
    (λ q. (quotas_fault (setting_of agents objects true) rows ≡ None)
    × (q.family ≡ family_of (setting_of agents objects true) (stated_by (setting_of agents objects true) rows))
    × (q.demands.items ≡ (stated_by (setting_of agents objects true) rows).demands))
    (λ e. Tells 2 e (quotas_fault (setting_of agents objects true) rows))

-- ---- what lawful quotas state

-- sets and demands of a problem with so many agents and objects, within the limits
pub record AreStatedFor (agents objects : ℕ) (stated : Stated) : Type 0 where
  pub objects_limit : objects ≤ 200
  pub sets_limit : length stated.sets ≤ 1000
  pub cells_limit : cells_in stated.sets ≤ 1000000
  pub sets_lawful : All (IsStatedSet objects) stated.sets
  pub columns_stated : (a : ℕ) → a < objects → Any (HoldsColumn agents a) stated.sets
  pub demands_lawful : AreDemands agents stated.demands

-- what lawful quotas state over the objects that they declare
abbrev pub LawfulQuotasSuit : Type 0
LawfulQuotasSuit = (agents : List (List ℕ)) (rows : List Row) → length agents ≤ 1000
    → quotas_fault (setting_of agents (declared rows) true) rows ≡ None → AreStatedFor (length agents) (length (declared rows)) (stated_by (setting_of agents (declared rows) true) rows)
