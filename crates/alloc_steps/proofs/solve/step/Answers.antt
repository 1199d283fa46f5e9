use Rattle.std.proofs.Common.{◌∙◌, ap, subst}
use Rattle.alloc_input.proofs.ProblemSuits.{problem-plain}
use Rattle.alloc_outcomes.proofs.AnswersLemmas.{after, itself}
use Rattle.alloc_outcomes.proofs.StepsLemmas.{steps-refused, steps-short}
use Rattle.alloc_steps.specs.Solve.{SolveAnswers}
use Rattle.definitions.specs.Lotteries.{SolvesFor}
use Rattle.definitions.specs.Sets.{FamilyValue}
use Rattle.alloc_steps.proofs.WritingLemmas.{lottery_part, steps-lottery, steps-lottery-refused}
use Rattle.alloc_steps.proofs.solve.step.Goals as goal

pub returns-in_err-problem : goal.returns-in_err-problem
returns-in_err-problem g c =
    steps-refused g.K.Sink _ _ (itself (SolveAnswers c.args.prefs.now c.args.quotas.now)) c.in_err-problem.ensures c.from_residual.ensures.1

pub returns-in_err-trees : goal.returns-in_err-trees
returns-in_err-trees g c =
    let read = after (itself (SolveAnswers c.args.prefs.now c.args.quotas.now)) c.in_ok-problem.problem c.in_ok-problem.ensures in
    steps-refused g.K.Sink _ _ read (rw c.family-family.ensures.value at c.in_err-trees.ensures) c.from_residual-in_err-trees.ensures.1

pub returns-in_err-eaten : goal.returns-in_err-eaten
returns-in_err-eaten g c =
    let read = after (itself (SolveAnswers c.args.prefs.now c.args.quotas.now)) c.in_ok-problem.problem c.in_ok-problem.ensures in
    let apart = after read c.in_ok-trees.trees (rw c.family-family.ensures.value at c.in_ok-trees.ensures) in
    steps-refused g.K.Sink _ _ apart c.in_err-eaten.ensures c.from_residual-in_err-eaten.ensures.1

pub returns-in_err-prices : goal.returns-in_err-prices
returns-in_err-prices g c = steps-short g.K.Sink _ _ c.from_residual-in_err-prices.ensures.1

pub write_solution-requires-clause-plain : goal.write_solution-requires-clause-plain
write_solution-requires-clause-plain g c = problem-plain c.args.prefs.now c.args.quotas.now c.in_ok-problem.problem c.in_ok-problem.ensures

pub write_solution-requires-clause-agents : goal.write_solution-requires-clause-agents
write_solution-requires-clause-agents g c = ap (λ (f : FamilyValue). f.agents) c.family-family.ensures.value ∙ c.family-family.ensures.lawful.family_agents

pub write_solution-requires-clause-columns : goal.write_solution-requires-clause-columns
write_solution-requires-clause-columns g c = ap (λ (f : FamilyValue). f.columns) c.family-family.ensures.value ∙ c.family-family.ensures.lawful.family_columns

pub returns-in_err-write_solution : goal.returns-in_err-write_solution
returns-in_err-write_solution g c =
    let read = after (itself (SolveAnswers c.args.prefs.now c.args.quotas.now)) c.in_ok-problem.problem c.in_ok-problem.ensures in
    let apart = after read c.in_ok-trees.trees (rw c.family-family.ensures.value at c.in_ok-trees.ensures) in
    let eaten = after apart c.in_ok-eaten.eaten c.in_ok-eaten.ensures in
    let solved = lottery_part (λ l s. subst (λ f. SolvesFor f c.in_ok-problem.problem l) c.family-family.ensures.value s) eaten in
    steps-lottery-refused g.K.Sink _ _ solved c.in_err-write_solution.field-0.0 _ c.in_err-write_solution.ensures.lottery c.in_err-write_solution.ensures.flushed c.in_err-write_solution.ensures.cause
    c.from_residual-in_err-write_solution.ensures.1

pub returns : goal.returns
returns g c =
    let read = after (itself (SolveAnswers c.args.prefs.now c.args.quotas.now)) c.in_ok-problem.problem c.in_ok-problem.ensures in
    let apart = after read c.in_ok-trees.trees (rw c.family-family.ensures.value at c.in_ok-trees.ensures) in
    let eaten = after apart c.in_ok-eaten.eaten c.in_ok-eaten.ensures in
    let solved = lottery_part (λ l s. subst (λ f. SolvesFor f c.in_ok-problem.problem l) c.family-family.ensures.value s) eaten in
    steps-lottery g.K.Sink _ _ solved tt tt c.in_ok-write_solution.ensures.lottery c.in_ok-write_solution.ensures.cause
