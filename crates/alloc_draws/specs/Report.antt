-- `report`: what it answers.
use Rattle.std.specs.Prelude.{ℕ, List}
use Rattle.alloc_outcomes.specs.Answers.{Answer, Gives, IsText}
use Rattle.alloc_outcomes.specs.Causes.{lottery_cause}
use Rattle.alloc_outcomes.specs.Meanings.{OneMeaning}
use Rattle.alloc_readings.specs.Lottery.{LotteryReads}
use Rattle.alloc_report.specs.Summary.{summary_text}

-- `report LOTTERY`: what the text reads as decides
abbrev pub ReportAnswers : List ℕ → Answer → Type 0
ReportAnswers bytes = Gives lottery_cause (LotteryReads bytes) (λ l. IsText (summary_text l))

-- what `report` means; it has no sentence of the headline
abbrev pub report_meaning : OneMeaning
report_meaning = record { answers = ReportAnswers; says = λ lottery run. Unit {0} }
