-- `report`: what has to be known of its meaning.
use Rattle.std.proofs.Common.{ℕ, List}
use Rattle.alloc_draws.specs.Report.{report_meaning, ReportAnswers}
use Rattle.alloc_outcomes.specs.Answers.{RefusesAlone}
use Rattle.alloc_outcomes.proofs.AnswersLemmas.{gives_alone, text_alone}
use Rattle.alloc_outcomes.proofs.MeaningsLemmas.{IsMeantOfOne}
use Rattle.alloc_readings.proofs.LotteryLemmas.{one_lottery}
use Rattle.alloc_report.specs.Summary.{summary_text}

report_alone : (bytes : List ℕ) → RefusesAlone (ReportAnswers bytes)
report_alone bytes = gives_alone (one_lottery bytes) (λ l read. text_alone (summary_text l))

pub report_meant : IsMeantOfOne report_meaning
report_meant = record { alone = report_alone; holds = λ lottery run came. tt }
