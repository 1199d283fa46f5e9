use Rattle.alloc_outcomes.proofs.AnswersLemmas.{after, itself}
use Rattle.alloc_outcomes.proofs.StepsLemmas.{steps-in, steps-refused}
use Rattle.alloc_audits.specs.Envy.{EnvyAnswers}
use Rattle.alloc_audits.proofs.envy.step.Goals as goal
use Rattle.lottery_file.specs.Lotteries.{lottery_value}

pub returns-in_err-problem : goal.returns-in_err-problem
returns-in_err-problem g c =
    steps-refused g.K.Sink _ _ (itself (EnvyAnswers c.args.prefs.now c.args.quotas.now c.args.bytes.now)) c.in_err-problem.ensures c.from_residual.ensures.1

pub returns-in_err-trees_from : goal.returns-in_err-trees_from
returns-in_err-trees_from g c =
    let read = after (itself (EnvyAnswers c.args.prefs.now c.args.quotas.now c.args.bytes.now)) c.in_ok-problem.problem c.in_ok-problem.ensures in
    steps-refused g.K.Sink _ _ read (rw c.family.ensures.value at c.in_err-trees_from.ensures) c.from_residual-in_err-trees_from.ensures.1

pub returns-in_err-lottery : goal.returns-in_err-lottery
returns-in_err-lottery g c =
    let read = after (itself (EnvyAnswers c.args.prefs.now c.args.quotas.now c.args.bytes.now)) c.in_ok-problem.problem c.in_ok-problem.ensures in
    let apart = after read c.in_ok-trees_from.field-0 (rw c.family.ensures.value at c.in_ok-trees_from.ensures) in
    steps-refused g.K.Sink _ _ apart c.in_err-lottery.ensures.read c.from_residual-in_err-lottery.ensures.1

pub returns-in_err-check_lottery : goal.returns-in_err-check_lottery
returns-in_err-check_lottery g c =
    let read = after (itself (EnvyAnswers c.args.prefs.now c.args.quotas.now c.args.bytes.now)) c.in_ok-problem.problem c.in_ok-problem.ensures in
    let apart = after read c.in_ok-trees_from.field-0 (rw c.family.ensures.value at c.in_ok-trees_from.ensures) in
    let known = after apart (lottery_value c.in_ok-lottery.lottery) c.in_ok-lottery.ensures.read in
    steps-refused g.K.Sink _ _ known c.in_err-check_lottery.ensures c.from_residual-in_err-check_lottery.ensures.1

pub write_envy-requires : goal.write_envy-requires
write_envy-requires g c = c.in_ok-check_lottery.ensures

pub returns : goal.returns
returns g c =
    let read = after (itself (EnvyAnswers c.args.prefs.now c.args.quotas.now c.args.bytes.now)) c.in_ok-problem.problem c.in_ok-problem.ensures in
    let apart = after read c.in_ok-trees_from.field-0 (rw c.family.ensures.value at c.in_ok-trees_from.ensures) in
    let known = after apart (lottery_value c.in_ok-lottery.lottery) c.in_ok-lottery.ensures.read in
    let sound = after known tt c.in_ok-check_lottery.ensures in
    steps-in g.K.Sink sound c.write_envy.ensures
