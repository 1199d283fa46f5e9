-- That the text of a lottery that solves a problem reads back. The law is the project's.
use Rattle.std.specs.Prelude.{◌≡◌, None, false}
use Rattle.definitions.specs.Lotteries.{LotteryValue, SolvesFor}
use Rattle.definitions.specs.Sets.{FamilyValue}
use Rattle.definitions.specs.Texts.{has_name, null_name}
use Rattle.definitions.specs.Values.{ProblemValue}
use Rattle.lottery_file.specs.Lotteries.{AreLawfulNames, IsLawfulLottery, TextReadsAs}
use Rattle.lottery_file.specs.Written.{lottery_text}

-- the names of the problem's agents and objects are lawful, and no object is `none`
pub record HasLawfulNames (p : ProblemValue) : Type 0 where
  pub agents : AreLawfulNames p.agents
  pub objects : AreLawfulNames p.objects
  pub apart : has_name p.objects null_name ≡ false

-- the lottery is lawful, and its text reads as this lottery and as no other
pub record ReadsBack (l : LotteryValue) : Type 0 where
  pub lawful : IsLawfulLottery l
  pub reads : TextReadsAs (lottery_text l) l
  pub alone : (m : LotteryValue) → TextReadsAs (lottery_text l) m → m ≡ l

-- so it is for each lottery without a design that solves a problem over lawful names
abbrev pub SolutionsReadBack : Type 0
SolutionsReadBack = (f : FamilyValue) (p : ProblemValue) (l : LotteryValue) → SolvesFor f p l
    → l.design ≡ None → HasLawfulNames p → ReadsBack l
