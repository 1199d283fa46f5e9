use Rattle.std.proofs.Common.{◌∙◌, ap, subst}
use Rattle.alloc_outcomes.specs.Steps.{Steps}
use Rattle.alloc_outcomes.proofs.StepsLemmas.{steps-short}
use Rattle.alloc_steps.specs.Generate.{SummaryAnswers}
use Rattle.alloc_steps.proofs.GenerateLemmas.{made_plain}
use Rattle.alloc_steps.proofs.generate.step.Goals as goal
use Rattle.definitions.specs.Texts.{has_name, null_name}
use Rattle.definitions.specs.Values.{ProblemValue}

pub returns-in_err-problem : goal.returns-in_err-problem
returns-in_err-problem g c = steps-short g.K.Sink _ _ c.from_residual.ensures.1

pub sum_up-requires-clause-plain : goal.sum_up-requires-clause-plain
sum_up-requires-clause-plain g c = ap (λ (p : ProblemValue). has_name p.objects null_name) c.in_ok-problem.ensures.made ∙ made_plain _ c.args.agents c.args.objects

pub returns : goal.returns
returns g c =
    let P : ProblemValue → Type 0 = λ p. Steps g.K.Sink (SummaryAnswers p) c.args.out.now c.sum_up.new.out c.sum_up.result in
    subst P c.in_ok-problem.ensures.made c.sum_up.ensures
