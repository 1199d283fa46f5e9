use Rattle.alloc_outcomes.proofs.AnswersLemmas.{after, itself}
use Rattle.alloc_outcomes.proofs.StepsLemmas.{steps-refused}
use Rattle.alloc_steps.specs.Decompose.{SplitAnswers}
use Rattle.alloc_steps.proofs.WritingLemmas.{steps-lottery, steps-lottery-refused}
use Rattle.alloc_steps.proofs.decompose.split_over.Goals as goal

pub returns-in_err-trees : goal.returns-in_err-trees
returns-in_err-trees g c =
    steps-refused g.K.Sink _ _ (itself (SplitAnswers c.args.shares.now c.args.x.now c.args.family.now)) c.in_err-trees.ensures c.from_residual.ensures.1

pub returns-in_err-check_quotas : goal.returns-in_err-check_quotas
returns-in_err-check_quotas g c =
    let apart = after (itself (SplitAnswers c.args.shares.now c.args.x.now c.args.family.now)) c.in_ok-trees.trees c.in_ok-trees.ensures in
    steps-refused g.K.Sink _ _ apart c.in_err-check_quotas.ensures c.from_residual-in_err-check_quotas.ensures.1

pub returns-in_err-write_split : goal.returns-in_err-write_split
returns-in_err-write_split g c =
    let apart = after (itself (SplitAnswers c.args.shares.now c.args.x.now c.args.family.now)) c.in_ok-trees.trees c.in_ok-trees.ensures in
    let met = after apart tt c.in_ok-check_quotas.ensures in
    steps-lottery-refused g.K.Sink _ _ met c.in_err-write_split.field-0.0 _ c.in_err-write_split.ensures.lottery c.in_err-write_split.ensures.flushed c.in_err-write_split.ensures.cause
    c.from_residual-in_err-write_split.ensures.1

pub returns : goal.returns
returns g c =
    let apart = after (itself (SplitAnswers c.args.shares.now c.args.x.now c.args.family.now)) c.in_ok-trees.trees c.in_ok-trees.ensures in
    let met = after apart tt c.in_ok-check_quotas.ensures in
    steps-lottery g.K.Sink _ _ met tt tt c.in_ok-write_split.ensures.lottery c.in_ok-write_split.ensures.cause
