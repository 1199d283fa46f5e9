use Rattle.std.proofs.Common.{◌∙◌}
use Rattle.alloc_outcomes.proofs.AnswersLemmas.{after, itself, text_part}
use Rattle.alloc_outcomes.proofs.StepsLemmas.{steps-in, steps-refused, steps-short}
use Rattle.alloc_tables.specs.Sets.{sets_text, SetsAnswers}
use Rattle.alloc_tables.proofs.sets.step.Goals as goal

pub returns-in_err-problem : goal.returns-in_err-problem
returns-in_err-problem g c =
    steps-refused g.K.Sink _ _ (itself (SetsAnswers c.args.prefs.now c.args.quotas.now)) c.in_err-problem.ensures c.from_residual.ensures.1

pub returns-in_err-trees : goal.returns-in_err-trees
returns-in_err-trees g c =
    let read = after (itself (SetsAnswers c.args.prefs.now c.args.quotas.now)) c.in_ok-problem.problem c.in_ok-problem.ensures in
    steps-refused g.K.Sink _ _ read (rw c.family.ensures.value at c.in_err-trees.ensures) c.from_residual-in_err-trees.ensures.1

pub returns-in_err-text : goal.returns-in_err-text
returns-in_err-text g c = steps-short g.K.Sink _ _ c.from_residual-in_err-text.ensures.1

pub returns : goal.returns
returns g c =
    let p = c.in_ok-problem.problem in
    let t = c.in_ok-trees.trees in
    let read = after (itself (SetsAnswers c.args.prefs.now c.args.quotas.now)) p c.in_ok-problem.ensures in
    let found = after read t (rw c.family.ensures.value at c.in_ok-trees.ensures) in
    steps-in g.K.Sink (text_part (sets_text p t) c.deref.result.now (c.deref.ensures.value ∙ c.in_ok-text.ensures) found) c.write_text.ensures
