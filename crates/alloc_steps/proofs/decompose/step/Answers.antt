use Rattle.alloc_outcomes.proofs.AnswersLemmas.{after, itself}
use Rattle.alloc_outcomes.proofs.StepsLemmas.{steps-in, steps-refused}
use Rattle.alloc_input.proofs.MatrixSuits.{matrix-unpriced}
use Rattle.alloc_steps.specs.Decompose.{DecomposeAnswers}
use Rattle.alloc_steps.proofs.decompose.step.Goals as goal

pub returns-in_err-shares : goal.returns-in_err-shares
returns-in_err-shares g c =
    steps-refused g.K.Sink _ _ (itself (DecomposeAnswers c.args.matrix.now c.args.quotas.now)) c.in_err-shares.ensures c.from_residual.ensures.1

pub returns-in_err-x : goal.returns-in_err-x
returns-in_err-x g c =
    let read = after (itself (DecomposeAnswers c.args.matrix.now c.args.quotas.now)) c.in_ok-shares.shares c.in_ok-shares.ensures in
    steps-refused g.K.Sink _ _ read c.in_err-x.ensures c.from_residual-in_err-x.ensures.1

pub returns-in_err-family : goal.returns-in_err-family
returns-in_err-family g c =
    let read = after (itself (DecomposeAnswers c.args.matrix.now c.args.quotas.now)) c.in_ok-shares.shares c.in_ok-shares.ensures in
    let scaled = after read c.in_ok-x.x c.in_ok-x.ensures in
    steps-refused g.K.Sink _ _ scaled c.in_err-family.ensures c.from_residual-in_err-family.ensures.1

pub split_over-requires-clause-plain : goal.split_over-requires-clause-plain
split_over-requires-clause-plain g c = matrix-unpriced c.in_ok-shares.shares c.in_ok-shares.ensures.1

pub returns : goal.returns
returns g c =
    let read = after (itself (DecomposeAnswers c.args.matrix.now c.args.quotas.now)) c.in_ok-shares.shares c.in_ok-shares.ensures in
    let scaled = after read c.in_ok-x.x c.in_ok-x.ensures in
    let stated = after scaled c.in_ok-family.family c.in_ok-family.ensures in
    steps-in g.K.Sink stated c.split_over.ensures
