use Rattle.std.proofs.Common.{◌∙◌, ap}
use Rattle.alloc_outcomes.proofs.AnswersLemmas.{after, itself}
use Rattle.alloc_outcomes.proofs.StepsLemmas.{steps-refused, steps-short}
use Rattle.definitions.specs.Sets.{FamilyValue}
use Rattle.alloc_steps.specs.SolveGuarded.{GuardedAnswers}
use Rattle.alloc_steps.proofs.SolveGuardedLemmas.{eaten_assigned, guarded_trees, solves_guarded}
use Rattle.alloc_steps.proofs.WritingLemmas.{lottery_part, steps-lottery, steps-lottery-refused}
use Rattle.alloc_steps.proofs.solve_guarded.write_guarded.Goals as goal

pub guarded_from-requires-clause-agents : goal.guarded_from-requires-clause-agents
guarded_from-requires-clause-agents g c = rw c.shares.ensures.value (eaten_assigned c.args.problem.now c.args.eaten.now c.stated-stated.ensures.lawful c.requires.eaten).agents

pub guarded_from-requires-clause-columns : goal.guarded_from-requires-clause-columns
guarded_from-requires-clause-columns g c = rw c.shares.ensures.value (eaten_assigned c.args.problem.now c.args.eaten.now c.stated-stated.ensures.lawful c.requires.eaten).columns

pub guarded_from-requires-clause-assignment : goal.guarded_from-requires-clause-assignment
guarded_from-requires-clause-assignment g c = rw c.shares.ensures.value (eaten_assigned c.args.problem.now c.args.eaten.now c.stated-stated.ensures.lawful c.requires.eaten).assignment

pub returns-in_err-family : goal.returns-in_err-family
returns-in_err-family g c =
    let begun = itself (GuardedAnswers c.args.problem.now c.args.eaten.now) in
    steps-refused g.K.Sink _ _ begun (rw c.shares.ensures.value at c.in_err-family.ensures) c.from_residual.ensures.1

pub trees_apart-requires-clause-lawful : goal.trees_apart-requires-clause-lawful
trees_apart-requires-clause-lawful g c = let k = c.in_ok-family.ensures in k.lawful

pub trees_apart-requires-clause-apart : goal.trees_apart-requires-clause-apart
trees_apart-requires-clause-apart g c =
    let t = c.requires.trees in
    let k = rw c.shares.ensures.value at c.in_ok-family.ensures in
    guarded_trees c.args.problem.now c.args.eaten.now c.in_ok-family.family c.stated-stated.ensures.lawful t.apart k

pub returns-in_err-apart : goal.returns-in_err-apart
returns-in_err-apart g c = steps-short g.K.Sink _ _ c.from_residual-in_err-apart.ensures.1

pub returns-in_err-prices : goal.returns-in_err-prices
returns-in_err-prices g c = steps-short g.K.Sink _ _ c.from_residual-in_err-prices.ensures.1

pub write_solution-requires-clause-agents : goal.write_solution-requires-clause-agents
write_solution-requires-clause-agents g c =
    let k = c.in_ok-family.ensures in
    ap (λ (f : FamilyValue). f.agents) k.is ∙ c.stated-stated.ensures.lawful.family_agents

pub write_solution-requires-clause-columns : goal.write_solution-requires-clause-columns
write_solution-requires-clause-columns g c =
    let k = c.in_ok-family.ensures in
    ap (λ (f : FamilyValue). f.columns) k.is ∙ c.stated-stated.ensures.lawful.family_columns

pub returns-in_err-write_solution : goal.returns-in_err-write_solution
returns-in_err-write_solution g c =
    let begun = itself (GuardedAnswers c.args.problem.now c.args.eaten.now) in
    let k = rw c.shares.ensures.value at c.in_ok-family.ensures in
    let guarded = after begun c.in_ok-family.family k in
    steps-lottery-refused g.K.Sink _ _ (lottery_part (λ l s. solves_guarded c.args.problem.now c.args.eaten.now c.in_ok-family.family l c.requires.eaten k s) guarded)
    c.in_err-write_solution.field-0.0 _ c.in_err-write_solution.ensures.lottery c.in_err-write_solution.ensures.flushed c.in_err-write_solution.ensures.cause
    c.from_residual-in_err-write_solution.ensures.1

pub returns : goal.returns
returns g c =
    let begun = itself (GuardedAnswers c.args.problem.now c.args.eaten.now) in
    let k = rw c.shares.ensures.value at c.in_ok-family.ensures in
    let guarded = after begun c.in_ok-family.family k in
    steps-lottery g.K.Sink _ _ (lottery_part (λ l s. solves_guarded c.args.problem.now c.args.eaten.now c.in_ok-family.family l c.requires.eaten k s) guarded)
    tt tt c.in_ok-write_solution.ensures.lottery c.in_ok-write_solution.ensures.cause
