-- `audit-guarded`: what it answers, and its sentence of the headline.
use Rattle.std.specs.Prelude.{◌≡◌, ℕ, List, None, Some, Result, Ok, Err}
use Rattle.alloc_audits.specs.Audit.{AreAudited, certified_fault}
use Rattle.alloc_audits.specs.Verdicts.{Judges, LeavesOverGuard, Passed, PassesOrFails, audit_cause, pass_text}
use Rattle.alloc_outcomes.specs.Answers.{Answer, Gives, IsText}
use Rattle.alloc_outcomes.specs.Causes.{input_cause, lottery_cause, trees_cause}
use Rattle.alloc_outcomes.specs.Meanings.{ThreeMeaning}
use Rattle.alloc_outcomes.specs.Sentences.{Run}
use Rattle.alloc_readings.specs.Guarded.{GuardsOrNot, guard_cause}
use Rattle.alloc_readings.specs.Lottery.{LotteryReads}
use Rattle.alloc_readings.specs.Problem.{ProblemTextReads}
use Rattle.alloc_readings.specs.Trees.{CrossesOrTrees}
use Rattle.cert_check.specs.PieceFaults.{first_piece_fault}
use Rattle.cert_check.specs.declared.faults.Fault.{Fault}
use Rattle.definitions.specs.Lotteries.{LotteryValue}
use Rattle.definitions.specs.Sets.{FamilyValue}
use Rattle.definitions.specs.Values.{IsProblem, ProblemValue}
use Rattle.guard_sets.specs.Guard.{IsOverGuard}
use Rattle.lottery_file.specs.Lotteries.{IsLawfulLottery}
use Rattle.lottery_laws.specs.Near.{IsSoundGuarded, WorthsAreNear}
use Rattle.lottery_laws.specs.Sound.{MeetsProblem}

-- the problem and the lottery are lawful, and no check of shape or of prices fails
pub record IsCertified (p : ProblemValue) (l : LotteryValue) : Type 0 where
  pub problem : IsProblem p
  pub lottery : IsLawfulLottery l
  pub passes : certified_fault p l ≡ None

-- this is the first of these checks that fails
pub record FailsCertificate (p : ProblemValue) (l : LotteryValue) (fault : Fault) : Type 0 where
  pub is : certified_fault p l ≡ Some fault

-- so it is, or this is the first of these checks that fails
abbrev pub IsCertifiedOrFails : ProblemValue → LotteryValue → Result (Unit {0}) Fault → Type 0
IsCertifiedOrFails p l (Ok _) = IsCertified p l
IsCertifiedOrFails p l (Err fault) = FailsCertificate p l fault

-- no check of the pieces over this family fails, or this is the first that does
pub record PassesPieces (f : FamilyValue) (l : LotteryValue) (result : Result (Unit {0}) Fault) : Type 0 where
  pub is : PassesOrFails (first_piece_fault f l.shares l.pieces) result

-- of a certified lottery: its guarded family, or that it is too large; and then the first check of the
-- pieces that fails over this family
abbrev pub PiecesAnswers : ProblemValue → LotteryValue → Answer → Type 0
PiecesAnswers p l =
    Gives guard_cause (GuardsOrNot p l.shares) (λ f.
    Gives audit_cause (PassesPieces f l) (λ _.
    IsText pass_text))

-- `audit-guarded PREFS QUOTAS LOTTERY`: what `audit` decides before the pieces, in its order; and then
-- the guarded family of the shares that were read, and the pieces
abbrev pub AuditGuardedAnswers : List ℕ → List ℕ → List ℕ → Answer → Type 0
AuditGuardedAnswers prefs quotas bytes =
    Gives input_cause (ProblemTextReads prefs quotas) (λ p.
    Gives trees_cause (CrossesOrTrees p.family) (λ _.
    Gives lottery_cause (LotteryReads bytes) (λ l.
    Gives audit_cause (IsCertifiedOrFails p l) (λ _.
    PiecesAnswers p l))))

-- ---- the sentence of the headline

-- the lottery is sound for the problem, with pieces for the guarded family, and so meets it; what any
-- two pieces give an agent differs in worth by at most the first less the last worth of its list; and
-- `pass` was written
pub record PassesGuardedAudit (p : ProblemValue) (l : LotteryValue) (run : Run) : Type 0 where
  pub sound : IsSoundGuarded p l
  pub meets : MeetsProblem p sound.prices l
  pub near : WorthsAreNear p sound.prices l.pieces
  pub wrote : Passed run

-- `pass` is written for such a lottery; where a check fails, it isn't sound with pieces for the guarded
-- family; or this family has too many sets or cells
abbrev pub AuditGuardedSays : (prefs quotas bytes : List ℕ) → Run → Type 0
AuditGuardedSays prefs quotas bytes run =
    (p : ProblemValue) (l : LotteryValue) → AreAudited prefs quotas bytes p l
    → Judges (PassesGuardedAudit p l run) (IsSoundGuarded p l) (LeavesOverGuard (IsOverGuard p l.shares)) run

-- what `audit-guarded` means
abbrev pub audit_guarded_meaning : ThreeMeaning
audit_guarded_meaning = record { answers = AuditGuardedAnswers; says = AuditGuardedSays }
