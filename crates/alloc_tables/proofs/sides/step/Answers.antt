use Rattle.std.proofs.Common.{◌∙◌}
use Rattle.alloc_outcomes.proofs.AnswersLemmas.{after, itself}
use Rattle.alloc_outcomes.proofs.StepsLemmas.{steps-in, steps-refused, steps-short}
use Rattle.alloc_tables.specs.Sides.{answer_text, SidesAnswers}
use Rattle.alloc_tables.proofs.SidesLemmas.{sides_text, told_part}
use Rattle.alloc_tables.proofs.sides.step.Goals as goal

pub returns-in_err-shares : goal.returns-in_err-shares
returns-in_err-shares g c =
    steps-refused g.K.Sink _ _ (itself (SidesAnswers c.args.matrix.now c.args.quotas.now)) c.in_err-shares.ensures c.from_residual.ensures.1

pub returns-in_err-family : goal.returns-in_err-family
returns-in_err-family g c =
    let read = after (itself (SidesAnswers c.args.matrix.now c.args.quotas.now)) c.in_ok-shares.shares c.in_ok-shares.ensures in
    steps-refused g.K.Sink _ _ read c.in_err-family.ensures c.from_residual-in_err-family.ensures.1

pub returns-in_err-sides : goal.returns-in_err-sides
returns-in_err-sides g c = steps-short g.K.Sink _ _ c.from_residual-in_err-sides.ensures.1

pub returns-in_err-text : goal.returns-in_err-text
returns-in_err-text g c = steps-short g.K.Sink _ _ c.from_residual-in_err-text.ensures.1

pub returns : goal.returns
returns g c =
    let f = c.in_ok-family.family in
    let read = after (itself (SidesAnswers c.args.matrix.now c.args.quotas.now)) c.in_ok-shares.shares c.in_ok-shares.ensures in
    let stated = after read f c.in_ok-family.ensures in
    let good = sides_text f c.in_ok-sides.sides c.in_ok-sides.ensures.split c.in_ok-sides.ensures.ring c.in_ok-sides.ensures.distinct in
    steps-in g.K.Sink (told_part (answer_text c.in_ok-sides.sides) c.deref.result.now (c.deref.ensures.value ∙ c.in_ok-text.ensures) good stated) c.write_text.ensures
