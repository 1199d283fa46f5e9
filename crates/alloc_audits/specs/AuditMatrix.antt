-- `audit-matrix`: what it answers, and its sentence of the headline.
use Rattle.std.specs.Prelude.{◌≡◌, ◌≤◌, ℕ, List, Option, Some, Result, Ok, Err, length}
use Rattle.std.specs.Option.{option_or}
use Rattle.alloc_audits.specs.NameFaults.{first_name_fault}
use Rattle.alloc_audits.specs.Verdicts.{Judges, LeavesTooFine, Passed, audit_cause, pass_text}
use Rattle.alloc_outcomes.specs.Answers.{Answer, Gives, IsText}
use Rattle.alloc_outcomes.specs.Causes.{infeasible_cause, input_cause, lottery_cause, scale_cause, trees_cause}
use Rattle.alloc_outcomes.specs.Limits.{file_limit}
use Rattle.alloc_outcomes.specs.Meanings.{ThreeMeaning}
use Rattle.alloc_outcomes.specs.Sentences.{Run}
use Rattle.alloc_readings.specs.Family.{QuotasTextReads}
use Rattle.alloc_readings.specs.Lottery.{LotteryReads}
use Rattle.alloc_readings.specs.Quotas.{MeetsOrNot}
use Rattle.alloc_readings.specs.Shares.{MatrixTextReads, ScalesOrNot}
use Rattle.alloc_readings.specs.Splittable.{IsSplittable}
use Rattle.alloc_readings.specs.Trees.{CrossesOrTrees}
use Rattle.cert_check.specs.MatrixFaults.{first_matrix_fault}
use Rattle.cert_check.specs.PieceFaults.{first_piece_fault}
use Rattle.cert_check.specs.declared.faults.Fault.{Fault}
use Rattle.definitions.specs.Lotteries.{LotteryValue, Splits}
use Rattle.definitions.specs.Sets.{FamilyValue, IsFamily, ScaledValue}
use Rattle.definitions.specs.Values.{SharesValue}
use Rattle.lottery_laws.specs.SplitsWell.{SplitsWell}
use Rattle.scaled_matrix.specs.Scaling.{IsTooFine}

-- the first check of names, of units or of pieces that fails, where x are the given shares in units
abbrev pub matrix_fault : SharesValue → ScaledValue → FamilyValue → LotteryValue → Option Fault
matrix_fault given x f l =
    option_or (first_name_fault given.agents given.objects l.agents l.columns)
    (option_or (first_matrix_fault x l.shares) (first_piece_fault f l.shares l.pieces))

-- this is the first check that fails, over a lawful family
pub record FailsFirst (given : SharesValue) (x : ScaledValue) (f : FamilyValue) (l : LotteryValue)
    (fault : Fault) : Type 0 where
  pub family : IsFamily f
  pub first : matrix_fault given x f l ≡ Some fault

-- the lottery splits the shares, or this is the first check that fails
abbrev pub SplitsOrFails : SharesValue → ScaledValue → FamilyValue → LotteryValue
    → Result (Unit {0}) Fault → Type 0
SplitsOrFails given x f l (Ok _) = Splits given f l
SplitsOrFails given x f l (Err fault) = FailsFirst given x f l fault

-- `audit-matrix MATRIX QUOTAS LOTTERY`: what the matrix reads as decides, then what its shares scale
-- to, then the quotas, then the least pair of sets that cross, then the first set whose quotas the
-- shares break, then what the lottery reads as, and then the first check that fails
abbrev pub AuditMatrixAnswers : List ℕ → List ℕ → List ℕ → Answer → Type 0
AuditMatrixAnswers matrix quotas bytes =
    Gives input_cause (MatrixTextReads matrix) (λ given.
    Gives scale_cause (ScalesOrNot given) (λ x.
    Gives input_cause (QuotasTextReads given quotas) (λ f.
    Gives trees_cause (CrossesOrTrees f) (λ _.
    Gives infeasible_cause (MeetsOrNot f x) (λ _.
    Gives lottery_cause (LotteryReads bytes) (λ l.
    Gives audit_cause (SplitsOrFails given x f l) (λ _.
    IsText pass_text)))))))

-- ---- the sentence of the headline

-- a matrix and quotas from which a lottery can be made, and the short text of a lottery
pub record IsSplitAudited (matrix quotas bytes : List ℕ) (given : SharesValue) (f : FamilyValue)
    (l : LotteryValue) : Type 0 where
  pub splittable : IsSplittable matrix quotas given f
  pub short : length bytes ≤ file_limit
  pub lottery : LotteryReads bytes (Ok l)

-- the lottery splits the shares, each of its pieces meets every quota and its named units are its
-- units; and `pass` was written
pub record PassesSplitAudit (given : SharesValue) (f : FamilyValue) (l : LotteryValue)
    (run : Run) : Type 0 where
  pub well : SplitsWell given f l
  pub wrote : Passed run

-- `pass` is written for a lottery that splits the shares well; where a check fails, it doesn't split
-- them; or their least common denominator passes 2^116
abbrev pub AuditMatrixSays : (matrix quotas bytes : List ℕ) → Run → Type 0
AuditMatrixSays matrix quotas bytes run =
    (given : SharesValue) (f : FamilyValue) (l : LotteryValue)
    → IsSplitAudited matrix quotas bytes given f l
    → Judges (PassesSplitAudit given f l run) (Splits given f l) (LeavesTooFine (IsTooFine given)) run

-- what `audit-matrix` means
abbrev pub audit_matrix_meaning : ThreeMeaning
audit_matrix_meaning = record { answers = AuditMatrixAnswers; says = AuditMatrixSays }
