use Rattle.std.proofs.Common.{◌∙◌}
use Rattle.alloc_draws.specs.Report.{ReportAnswers}
use Rattle.alloc_draws.proofs.report.step.Goals as goal
use Rattle.alloc_outcomes.proofs.AnswersLemmas.{after, itself, text_part}
use Rattle.alloc_outcomes.proofs.StepsLemmas.{steps-in, steps-refused, steps-short}
use Rattle.alloc_report.specs.Summary.{summary_text}
use Rattle.lottery_file.specs.Lotteries.{lottery_value}

pub returns-in_err-lottery : goal.returns-in_err-lottery
returns-in_err-lottery g c =
    steps-refused g.K.Sink _ _ (itself (ReportAnswers c.args.bytes.now)) c.in_err-lottery.ensures.read c.from_residual.ensures.1

pub returns-in_err-text : goal.returns-in_err-text
returns-in_err-text g c = steps-short g.K.Sink _ _ c.from_residual-in_err-text.ensures.1

pub returns : goal.returns
returns g c =
    let l = lottery_value c.in_ok-lottery.lottery in
    let read = after (itself (ReportAnswers c.args.bytes.now)) l c.in_ok-lottery.ensures.read in
    steps-in g.K.Sink (text_part (summary_text l) c.deref.result.now (c.deref.ensures.value ∙ c.in_ok-text.ensures) read) c.write_text.ensures
