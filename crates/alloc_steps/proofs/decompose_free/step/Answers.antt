use Rattle.alloc_outcomes.proofs.AnswersLemmas.{after, itself}
use Rattle.alloc_outcomes.proofs.StepsLemmas.{steps-in, steps-refused}
use Rattle.alloc_input.proofs.MatrixSuits.{matrix-unpriced}
use Rattle.alloc_steps.specs.DecomposeFree.{DecomposeFreeAnswers}
use Rattle.alloc_steps.proofs.DecomposeFreeLemmas.{freed_part, freed_sides, ring_found}
use Rattle.alloc_steps.proofs.decompose_free.step.Goals as goal

pub returns-in_err-shares : goal.returns-in_err-shares
returns-in_err-shares g c =
    steps-refused g.K.Sink _ _ (itself (DecomposeFreeAnswers c.args.matrix.now c.args.quotas.now)) c.in_err-shares.ensures c.from_residual.ensures.1

pub returns-in_err-x : goal.returns-in_err-x
returns-in_err-x g c =
    let read = after (itself (DecomposeFreeAnswers c.args.matrix.now c.args.quotas.now)) c.in_ok-shares.shares c.in_ok-shares.ensures in
    steps-refused g.K.Sink _ _ read c.in_err-x.ensures c.from_residual-in_err-x.ensures.1

pub returns-in_err-family : goal.returns-in_err-family
returns-in_err-family g c =
    let read = after (itself (DecomposeFreeAnswers c.args.matrix.now c.args.quotas.now)) c.in_ok-shares.shares c.in_ok-shares.ensures in
    let scaled = after read c.in_ok-x.x c.in_ok-x.ensures in
    steps-refused g.K.Sink _ _ scaled c.in_err-family.ensures c.from_residual-in_err-family.ensures.1

pub split_over-requires-clause-plain : goal.split_over-requires-clause-plain
split_over-requires-clause-plain g c = matrix-unpriced c.in_ok-shares.shares c.in_ok-shares.ensures.1

pub returns-in_err-free : goal.returns-in_err-free
returns-in_err-free g c =
    let f = c.in_ok-family.family in
    let read = after (itself (DecomposeFreeAnswers c.args.matrix.now c.args.quotas.now)) c.in_ok-shares.shares c.in_ok-shares.ensures in
    let scaled = after read c.in_ok-x.x c.in_ok-x.ensures in
    let stated = after scaled f c.in_ok-family.ensures in
    steps-refused g.K.Sink _ _ stated (ring_found f _ c.in_err-free.ensures) c.from_residual-in_err-free.ensures.1

pub returns : goal.returns
returns g c =
    let given = c.in_ok-shares.shares in
    let x = c.in_ok-x.x in
    let f = c.in_ok-family.family in
    let free = c.in_ok-free.free in
    let read = after (itself (DecomposeFreeAnswers c.args.matrix.now c.args.quotas.now)) given c.in_ok-shares.ensures in
    let scaled = after read x c.in_ok-x.ensures in
    let stated = after scaled f c.in_ok-family.ensures in
    let sided = after stated tt (freed_sides f free c.in_ok-free.ensures) in
    steps-in g.K.Sink (λ answer h. sided answer (freed_part given x f free c.in_ok-free.ensures answer h)) c.split_over.ensures
