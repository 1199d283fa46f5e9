use Rattle.std.proofs.Common.{◌∙◌, ◌++◌, ℕ, List, Ok, ap, subst}
use Rattle.alloc_draws.specs.Draw.{NamesOrNot}
use Rattle.alloc_draws.specs.PactDraw.{seed_of, seed_text, PactDrawAnswers}
use Rattle.alloc_draws.specs.Picked.{picked_text}
use Rattle.alloc_draws.proofs.pact_draw.step.Goals as goal
use Rattle.alloc_outcomes.proofs.AnswersLemmas.{after, itself, text_part}
use Rattle.alloc_outcomes.proofs.StepsLemmas.{steps-in, steps-refused, steps-short}
use Rattle.lottery_file.specs.Lotteries.{lottery_value}
use Rattle.seed_pact.specs.Pacts.{pact_value}

pub returns-in_err-lottery : goal.returns-in_err-lottery
returns-in_err-lottery g c =
    steps-refused g.K.Sink _ _ (itself (PactDrawAnswers c.args.first.now c.args.second.now)) c.in_err-lottery.ensures.read c.from_residual.ensures.1

pub returns-in_err-pact : goal.returns-in_err-pact
returns-in_err-pact g c =
    let read = after (itself (PactDrawAnswers c.args.first.now c.args.second.now)) (lottery_value c.in_ok-lottery.lottery) c.in_ok-lottery.ensures.read in
    steps-refused g.K.Sink _ _ read c.in_err-pact.ensures c.from_residual-in_err-pact.ensures.1

pub returns-in_err-ticket : goal.returns-in_err-ticket
returns-in_err-ticket g c =
    let read = after (itself (PactDrawAnswers c.args.first.now c.args.second.now)) (lottery_value c.in_ok-lottery.lottery) c.in_ok-lottery.ensures.read in
    let held = after read (pact_value c.in_ok-pact.pact) c.in_ok-pact.ensures in
    steps-refused g.K.Sink _ _ held (rw c.joint_seed-seed.ensures at c.in_err-ticket.ensures.named) c.from_residual-in_err-ticket.ensures.1

pub returns-in_err-text : goal.returns-in_err-text
returns-in_err-text g c = steps-short g.K.Sink _ _ c.from_residual-in_err-text.ensures.1

pub returns : goal.returns
returns g c =
    let l = lottery_value c.in_ok-lottery.lottery in
    let p = pact_value c.in_ok-pact.pact in
    let ticket = c.in_ok-ticket.ticket in
    let read = after (itself (PactDrawAnswers c.args.first.now c.args.second.now)) l c.in_ok-lottery.ensures.read in
    let held = after read p c.in_ok-pact.ensures in
    let named = subst (λ (seed : List ℕ). NamesOrNot seed l.shares.denominator (Ok ticket)) c.joint_seed-seed.ensures c.in_ok-ticket.ensures.named in
    let within = after held ticket named in
    let text = c.in_ok-text.ensures ∙ ap (λ (seed : List ℕ). seed_text seed ++ picked_text l ticket) c.joint_seed-seed.ensures in
    steps-in g.K.Sink (text_part (seed_text (seed_of p) ++ picked_text l ticket) c.deref.result.now (c.deref.ensures.value ∙ text) within) c.write_text.ensures
