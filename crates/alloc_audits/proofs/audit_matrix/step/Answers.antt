use Rattle.alloc_outcomes.proofs.AnswersLemmas.{after, itself}
use Rattle.alloc_outcomes.proofs.StepsLemmas.{steps-in, steps-refused}
use Rattle.alloc_audits.specs.AuditMatrix.{AuditMatrixAnswers}
use Rattle.alloc_audits.proofs.audit_matrix.step.Goals as goal
use Rattle.lottery_file.specs.Lotteries.{lottery_value}

pub returns-in_err-shares : goal.returns-in_err-shares
returns-in_err-shares g c =
    steps-refused g.K.Sink _ _ (itself (AuditMatrixAnswers c.args.matrix.now c.args.quotas.now c.args.bytes.now)) c.in_err-shares.ensures c.from_residual.ensures.1

pub returns-in_err-x : goal.returns-in_err-x
returns-in_err-x g c =
    let read = after (itself (AuditMatrixAnswers c.args.matrix.now c.args.quotas.now c.args.bytes.now)) c.in_ok-shares.shares c.in_ok-shares.ensures in
    steps-refused g.K.Sink _ _ read c.in_err-x.ensures c.from_residual-in_err-x.ensures.1

pub returns-in_err-family : goal.returns-in_err-family
returns-in_err-family g c =
    let read = after (itself (AuditMatrixAnswers c.args.matrix.now c.args.quotas.now c.args.bytes.now)) c.in_ok-shares.shares c.in_ok-shares.ensures in
    let scaled = after read c.in_ok-x.x c.in_ok-x.ensures in
    steps-refused g.K.Sink _ _ scaled c.in_err-family.ensures c.from_residual-in_err-family.ensures.1

pub returns-in_err-trees_from : goal.returns-in_err-trees_from
returns-in_err-trees_from g c =
    let read = after (itself (AuditMatrixAnswers c.args.matrix.now c.args.quotas.now c.args.bytes.now)) c.in_ok-shares.shares c.in_ok-shares.ensures in
    let scaled = after read c.in_ok-x.x c.in_ok-x.ensures in
    let stated = after scaled c.in_ok-family.family c.in_ok-family.ensures in
    steps-refused g.K.Sink _ _ stated c.in_err-trees_from.ensures c.from_residual-in_err-trees_from.ensures.1

pub returns-in_err-check_quotas : goal.returns-in_err-check_quotas
returns-in_err-check_quotas g c =
    let read = after (itself (AuditMatrixAnswers c.args.matrix.now c.args.quotas.now c.args.bytes.now)) c.in_ok-shares.shares c.in_ok-shares.ensures in
    let scaled = after read c.in_ok-x.x c.in_ok-x.ensures in
    let stated = after scaled c.in_ok-family.family c.in_ok-family.ensures in
    let apart = after stated c.in_ok-trees_from.field-0 c.in_ok-trees_from.ensures in
    steps-refused g.K.Sink _ _ apart c.in_err-check_quotas.ensures c.from_residual-in_err-check_quotas.ensures.1

pub returns-in_err-lottery : goal.returns-in_err-lottery
returns-in_err-lottery g c =
    let read = after (itself (AuditMatrixAnswers c.args.matrix.now c.args.quotas.now c.args.bytes.now)) c.in_ok-shares.shares c.in_ok-shares.ensures in
    let scaled = after read c.in_ok-x.x c.in_ok-x.ensures in
    let stated = after scaled c.in_ok-family.family c.in_ok-family.ensures in
    let apart = after stated c.in_ok-trees_from.field-0 c.in_ok-trees_from.ensures in
    let met = after apart tt c.in_ok-check_quotas.ensures in
    steps-refused g.K.Sink _ _ met c.in_err-lottery.ensures.read c.from_residual-in_err-lottery.ensures.1

pub returns-in_err-check_lottery : goal.returns-in_err-check_lottery
returns-in_err-check_lottery g c =
    let read = after (itself (AuditMatrixAnswers c.args.matrix.now c.args.quotas.now c.args.bytes.now)) c.in_ok-shares.shares c.in_ok-shares.ensures in
    let scaled = after read c.in_ok-x.x c.in_ok-x.ensures in
    let stated = after scaled c.in_ok-family.family c.in_ok-family.ensures in
    let apart = after stated c.in_ok-trees_from.field-0 c.in_ok-trees_from.ensures in
    let met = after apart tt c.in_ok-check_quotas.ensures in
    let known = after met (lottery_value c.in_ok-lottery.lottery) c.in_ok-lottery.ensures.read in
    steps-refused g.K.Sink _ _ known c.in_err-check_lottery.ensures c.from_residual-in_err-check_lottery.ensures.1

pub returns : goal.returns
returns g c =
    let read = after (itself (AuditMatrixAnswers c.args.matrix.now c.args.quotas.now c.args.bytes.now)) c.in_ok-shares.shares c.in_ok-shares.ensures in
    let scaled = after read c.in_ok-x.x c.in_ok-x.ensures in
    let stated = after scaled c.in_ok-family.family c.in_ok-family.ensures in
    let apart = after stated c.in_ok-trees_from.field-0 c.in_ok-trees_from.ensures in
    let met = after apart tt c.in_ok-check_quotas.ensures in
    let known = after met (lottery_value c.in_ok-lottery.lottery) c.in_ok-lottery.ensures.read in
    let split = after known tt c.in_ok-check_lottery.ensures in
    steps-in g.K.Sink split c.write_text.ensures
