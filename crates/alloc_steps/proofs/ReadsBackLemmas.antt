-- The text of a lottery that solves a problem over lawful names reads back.
use Rattle.std.proofs.Common.{◌≡◌, None}
use Rattle.definitions.specs.Lotteries.{LotteryValue, SolvesFor}
use Rattle.definitions.specs.Sets.{FamilyValue}
use Rattle.definitions.specs.Values.{ProblemValue}
use Rattle.lottery_file.specs.Lotteries.{IsLawfulLottery}
use Rattle.lottery_file.specs.Written.{lottery_text}
use Rattle.lottery_file.proofs.ReadOnce.{one-value}
use Rattle.lottery_file.proofs.RoundTrip.{text-reads}
use Rattle.lottery_file.proofs.Solved.{solves-lawful}
use Rattle.alloc_steps.specs.ReadsBack.{HasLawfulNames, ReadsBack}
use Rattle.alloc_steps.proofs.SmallRecipe.{recipe_within}

-- a lottery that solves a problem over lawful names is lawful
pub solution_lawful : (f : FamilyValue) (p : ProblemValue) (l : LotteryValue) → SolvesFor f p l → l.design ≡ None → HasLawfulNames p → IsLawfulLottery l
solution_lawful f p l s plain names =
    let small = recipe_within p l.shares.denominator s.moments s.prices s.problem s.table s.recipe in
    solves-lawful f p l s plain names.agents names.objects names.apart small.prices small.worths

-- and its text reads back
pub solution_reads : (f : FamilyValue) (p : ProblemValue) (l : LotteryValue) → SolvesFor f p l → l.design ≡ None → HasLawfulNames p → ReadsBack l
solution_reads f p l s plain names =
    let lawful = solution_lawful f p l s plain names in
    record {
      lawful = lawful;
      reads = text-reads l lawful;
      alone = λ m reads. one-value (lottery_text l) m l reads (text-reads l lawful);
    }
