-- `audit`: what it answers, and its sentence of the headline.
use Rattle.std.specs.Prelude.{◌≡◌, ◌≤◌, ℕ, List, [], Option, Some, Result, Ok, Err, length, unwrap_or}
use Rattle.std.specs.Option.{option_or}
use Rattle.alloc_audits.specs.Verdicts.{Judges, LeavesNone, Passed, audit_cause, pass_text}
use Rattle.alloc_outcomes.specs.Answers.{Answer, Gives, IsText}
use Rattle.alloc_outcomes.specs.Causes.{input_cause, lottery_cause, trees_cause}
use Rattle.alloc_outcomes.specs.Limits.{file_limit}
use Rattle.alloc_outcomes.specs.Meanings.{ThreeMeaning}
use Rattle.alloc_outcomes.specs.Sentences.{Run}
use Rattle.alloc_readings.specs.Lottery.{LotteryReads}
use Rattle.alloc_readings.specs.Problem.{ProblemTextReads}
use Rattle.alloc_readings.specs.Trees.{CrossesOrTrees}
use Rattle.cert_check.specs.PieceFaults.{first_piece_fault}
use Rattle.cert_check.specs.PriceFaults.{first_price_fault}
use Rattle.cert_check.specs.ShapeFaults.{first_shape_fault}
use Rattle.cert_check.specs.declared.faults.Fault.{Fault}
use Rattle.definitions.specs.Lotteries.{LotteryValue}
use Rattle.definitions.specs.Sets.{IsBihierarchy}
use Rattle.definitions.specs.Values.{PricesValue, ProblemValue}
use Rattle.lottery_laws.specs.Sound.{IsSound, MeetsProblem}

-- the prices and worths of a lottery, and none of either where it has none
abbrev pub prices_of : LotteryValue → PricesValue
prices_of l = unwrap_or l.prices (record { price = []; worth = [] })

-- the first check of shape or of prices that fails
abbrev pub certified_fault : ProblemValue → LotteryValue → Option Fault
certified_fault p l =
    option_or (first_shape_fault p l.agents l.columns l.lists (length (prices_of l).price))
    (first_price_fault p l.shares (prices_of l))

-- the first check of shape, of prices or of pieces that fails; pieces are checked over the family of the problem, which
-- has the agents' rows
abbrev pub audit_fault : ProblemValue → LotteryValue → Option Fault
audit_fault p l = option_or (certified_fault p l) (first_piece_fault p.family l.shares l.pieces)

-- this is the first check that fails
pub record IsFirstFault (p : ProblemValue) (l : LotteryValue) (fault : Fault) : Type 0 where
  pub is : audit_fault p l ≡ Some fault

-- the lottery is sound for the problem, or this is the first check that fails
abbrev pub IsSoundOrFails : ProblemValue → LotteryValue → Result (Unit {0}) Fault → Type 0
IsSoundOrFails p l (Ok _) = IsSound p l
IsSoundOrFails p l (Err fault) = IsFirstFault p l fault

-- an audit of a lottery, and then this text of the problem and the lottery: what the first two texts
-- read as decides, then the least pair of sets that cross, then what the lottery reads as, and then
-- the first check that fails
abbrev pub AuditedAnswers : (ProblemValue → LotteryValue → List ℕ) → List ℕ → List ℕ → List ℕ
    → Answer → Type 0
AuditedAnswers due prefs quotas bytes =
    Gives input_cause (ProblemTextReads prefs quotas) (λ p.
    Gives trees_cause (CrossesOrTrees p.family) (λ _.
    Gives lottery_cause (LotteryReads bytes) (λ l.
    Gives audit_cause (IsSoundOrFails p l) (λ _.
    IsText (due p l)))))

-- `audit PREFS QUOTAS LOTTERY`: an audit, and then `pass`
abbrev pub AuditAnswers : List ℕ → List ℕ → List ℕ → Answer → Type 0
AuditAnswers = AuditedAnswers (λ _ _. pass_text)

-- ---- the sentence of the headline

-- texts of preferences, of quotas and of a lottery that are short and lawful, and no two sets of one
-- side cross
pub record AreAudited (prefs quotas bytes : List ℕ) (p : ProblemValue)
    (l : LotteryValue) : Type 0 where
  pub short : (length prefs ≤ file_limit) × (length quotas ≤ file_limit) × (length bytes ≤ file_limit)
  pub problem : ProblemTextReads prefs quotas (Ok p)
  pub lottery : LotteryReads bytes (Ok l)
  pub apart : IsBihierarchy p.family

-- the lottery is sound for the problem, and so meets it: each of its pieces keeps every limit and
-- gives each agent its demand, and nothing dominates its shares or is worth more at its prices; and
-- `pass` was written
pub record PassesAudit (p : ProblemValue) (l : LotteryValue) (run : Run) : Type 0 where
  pub sound : IsSound p l
  pub meets : MeetsProblem p sound.prices l
  pub wrote : Passed run

-- `pass` is written for a lottery that is sound and meets the problem; where a check fails, it isn't
-- sound
abbrev pub AuditSays : (prefs quotas bytes : List ℕ) → Run → Type 0
AuditSays prefs quotas bytes run =
    (p : ProblemValue) (l : LotteryValue) → AreAudited prefs quotas bytes p l
    → Judges (PassesAudit p l run) (IsSound p l) LeavesNone run

-- what `audit` means
abbrev pub audit_meaning : ThreeMeaning
audit_meaning = record { answers = AuditAnswers; says = AuditSays }
