use Rattle.std.proofs.Common.{◌∙◌}
use Rattle.alloc_draws.specs.PactCommit.{commit_text, PactCommitAnswers}
use Rattle.alloc_draws.proofs.pact_commit.step.Goals as goal
use Rattle.alloc_outcomes.proofs.AnswersLemmas.{itself, text_part}
use Rattle.alloc_outcomes.proofs.StepsLemmas.{steps-in, steps-short}

pub returns-in_err-text : goal.returns-in_err-text
returns-in_err-text g c = steps-short g.K.Sink _ _ c.from_residual.ensures.1

pub returns : goal.returns
returns g c =
    steps-in g.K.Sink (text_part (commit_text c.args.name.now c.args.contribution) c.deref.result.now (c.deref.ensures.value ∙ c.in_ok-text.ensures) (itself (PactCommitAnswers c.args.name.now c.args.contribution))) c.write_text.ensures
