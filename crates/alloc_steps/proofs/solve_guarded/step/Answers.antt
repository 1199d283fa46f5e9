use Rattle.alloc_input.proofs.ProblemSuits.{problem-plain}
use Rattle.alloc_outcomes.proofs.AnswersLemmas.{after, itself}
use Rattle.alloc_outcomes.proofs.StepsLemmas.{steps-in, steps-refused}
use Rattle.alloc_steps.specs.SolveGuarded.{SolveGuardedAnswers}
use Rattle.alloc_steps.proofs.solve_guarded.step.Goals as goal

pub returns-in_err-problem : goal.returns-in_err-problem
returns-in_err-problem g c =
    steps-refused g.K.Sink _ _ (itself (SolveGuardedAnswers c.args.prefs.now c.args.quotas.now)) c.in_err-problem.ensures c.from_residual.ensures.1

pub returns-in_err-trees : goal.returns-in_err-trees
returns-in_err-trees g c =
    let read = after (itself (SolveGuardedAnswers c.args.prefs.now c.args.quotas.now)) c.in_ok-problem.problem c.in_ok-problem.ensures in
    steps-refused g.K.Sink _ _ read (rw c.family.ensures.value at c.in_err-trees.ensures) c.from_residual-in_err-trees.ensures.1

pub returns-in_err-eaten : goal.returns-in_err-eaten
returns-in_err-eaten g c =
    let read = after (itself (SolveGuardedAnswers c.args.prefs.now c.args.quotas.now)) c.in_ok-problem.problem c.in_ok-problem.ensures in
    let apart = after read c.in_ok-trees.trees (rw c.family.ensures.value at c.in_ok-trees.ensures) in
    steps-refused g.K.Sink _ _ apart c.in_err-eaten.ensures c.from_residual-in_err-eaten.ensures.1

pub write_guarded-requires-clause-trees : goal.write_guarded-requires-clause-trees
write_guarded-requires-clause-trees g c = rw c.family.ensures.value at c.in_ok-trees.ensures

pub write_guarded-requires-clause-plain : goal.write_guarded-requires-clause-plain
write_guarded-requires-clause-plain g c = problem-plain c.args.prefs.now c.args.quotas.now c.in_ok-problem.problem c.in_ok-problem.ensures

pub returns : goal.returns
returns g c =
    let read = after (itself (SolveGuardedAnswers c.args.prefs.now c.args.quotas.now)) c.in_ok-problem.problem c.in_ok-problem.ensures in
    let apart = after read c.in_ok-trees.trees (rw c.family.ensures.value at c.in_ok-trees.ensures) in
    let eaten = after apart c.in_ok-eaten.eaten c.in_ok-eaten.ensures in
    steps-in g.K.Sink eaten c.write_guarded.ensures
