-- What passes an audit. The laws are the project's.
use Rattle.std.specs.Prelude.{◌≡◌, ◌↔◌, None, length}
use Rattle.alloc_audits.specs.Audit.{audit_fault}
use Rattle.alloc_audits.specs.AuditMatrix.{matrix_fault}
use Rattle.definitions.specs.Lotteries.{LotteryValue, Solves, Splits}
use Rattle.definitions.specs.Scaling.{IsScaled}
use Rattle.definitions.specs.Sets.{FamilyValue, IsFamily, IsScaledMatrix, ScaledValue}
use Rattle.definitions.specs.Values.{IsProblem, ProblemValue, SharesValue}
use Rattle.lottery_file.specs.Lotteries.{IsLawfulLottery}
use Rattle.lottery_laws.specs.Sound.{IsSound}
use Rattle.scaled_matrix.specs.Entries.{IsShares}

-- no check of a lawful lottery fails for a lawful problem exactly where the lottery is sound for it
abbrev pub SoundPass : Type 0
SoundPass = (p : ProblemValue) (l : LotteryValue) → IsProblem p → IsLawfulLottery l
    → (audit_fault p l ≡ None) ↔ IsSound p l

-- no check of a lottery that solves a problem fails
abbrev pub SolutionsPass : Type 0
SolutionsPass = (p : ProblemValue) (l : LotteryValue) → Solves p l → audit_fault p l ≡ None

-- units of given shares, and a lawful family over their agents and objects
pub record AreForShares (given : SharesValue) (x : ScaledValue) (f : FamilyValue) : Type 0 where
  pub shares : IsShares given
  pub scaled : IsScaled given x
  pub matrix : IsScaledMatrix x
  pub family : IsFamily f
  pub agents : f.agents ≡ length given.agents
  pub columns : f.columns ≡ length given.objects

-- no check of a lottery that splits given shares fails
abbrev pub SplitsPass : Type 0
SplitsPass = (given : SharesValue) (x : ScaledValue) (f : FamilyValue) (l : LotteryValue)
    → AreForShares given x f → Splits given f l → matrix_fault given x f l ≡ None
