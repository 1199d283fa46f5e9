use Rattle.std.proofs.Common.{◌∙◌}
use Rattle.alloc_draws.specs.Pick.{PickAnswers}
use Rattle.alloc_draws.specs.Picked.{picked_text}
use Rattle.alloc_draws.proofs.pick.step.Goals as goal
use Rattle.alloc_outcomes.proofs.AnswersLemmas.{after, itself, text_part}
use Rattle.alloc_outcomes.proofs.StepsLemmas.{steps-in, steps-refused, steps-short}
use Rattle.lottery_file.specs.Lotteries.{lottery_value}

pub returns-in_err-lottery : goal.returns-in_err-lottery
returns-in_err-lottery g c =
    steps-refused g.K.Sink _ _ (itself (PickAnswers c.args.ticket c.args.bytes.now)) c.in_err-lottery.ensures.read c.from_residual.ensures.1

pub returns-in_err-check_ticket : goal.returns-in_err-check_ticket
returns-in_err-check_ticket g c =
    let read = after (itself (PickAnswers c.args.ticket c.args.bytes.now)) (lottery_value c.in_ok-lottery.lottery) c.in_ok-lottery.ensures.read in
    steps-refused g.K.Sink _ _ read c.in_err-check_ticket.ensures c.from_residual-in_err-check_ticket.ensures.1

pub returns-in_err-text : goal.returns-in_err-text
returns-in_err-text g c = steps-short g.K.Sink _ _ c.from_residual-in_err-text.ensures.1

pub returns : goal.returns
returns g c =
    let l = lottery_value c.in_ok-lottery.lottery in
    let read = after (itself (PickAnswers c.args.ticket c.args.bytes.now)) l c.in_ok-lottery.ensures.read in
    let within = after read tt c.in_ok-check_ticket.ensures in
    steps-in g.K.Sink (text_part (picked_text l c.args.ticket) c.deref.result.now (c.deref.ensures.value ∙ c.in_ok-text.ensures) within) c.write_text.ensures
