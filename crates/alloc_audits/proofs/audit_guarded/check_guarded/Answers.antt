use Rattle.alloc_outcomes.proofs.AnswersLemmas.{after, itself}
use Rattle.alloc_outcomes.proofs.StepsLemmas.{steps-in, steps-refused}
use Rattle.alloc_audits.specs.AuditGuarded.{PiecesAnswers}
use Rattle.alloc_audits.proofs.SoundAudits.{checked_assignment, checked_matrix}
use Rattle.alloc_audits.proofs.AuditGuardedLemmas.{guarded_matrix}
use Rattle.alloc_audits.proofs.audit_guarded.check_guarded.Goals as goal
use Rattle.lottery_file.specs.Lotteries.{lottery_value}

pub guarded_from-requires-clause-agents : goal.guarded_from-requires-clause-agents
guarded_from-requires-clause-agents g c =
    let k = c.requires in
    (checked_matrix c.args.problem.now (lottery_value c.args.lottery.now) k.problem k.lottery k.passes).agents

pub guarded_from-requires-clause-columns : goal.guarded_from-requires-clause-columns
guarded_from-requires-clause-columns g c =
    let k = c.requires in
    (checked_matrix c.args.problem.now (lottery_value c.args.lottery.now) k.problem k.lottery k.passes).columns

pub guarded_from-requires-clause-assignment : goal.guarded_from-requires-clause-assignment
guarded_from-requires-clause-assignment g c =
    let k = c.requires in
    checked_assignment c.args.problem.now (lottery_value c.args.lottery.now) k.problem k.lottery k.passes

pub returns-in_err-family : goal.returns-in_err-family
returns-in_err-family g c =
    let begun = itself (PiecesAnswers c.args.problem.now (lottery_value c.args.lottery.now)) in
    steps-refused g.K.Sink _ _ begun c.in_err-family.ensures c.from_residual.ensures.1

pub check_pieces-requires-clause-matrix : goal.check_pieces-requires-clause-matrix
check_pieces-requires-clause-matrix g c =
    let k = c.requires in
    guarded_matrix c.args.problem.now (lottery_value c.args.lottery.now) c.in_ok-family.family k c.in_ok-family.ensures

pub check_pieces-requires-clause-lawful : goal.check_pieces-requires-clause-lawful
check_pieces-requires-clause-lawful g c = let k = c.requires in k.lottery

pub returns-in_err-check_pieces : goal.returns-in_err-check_pieces
returns-in_err-check_pieces g c =
    let begun = itself (PiecesAnswers c.args.problem.now (lottery_value c.args.lottery.now)) in
    let guarded = after begun c.in_ok-family.family c.in_ok-family.ensures in
    steps-refused g.K.Sink _ _ guarded c.in_err-check_pieces.ensures c.from_residual-in_err-check_pieces.ensures.1

pub returns : goal.returns
returns g c =
    let begun = itself (PiecesAnswers c.args.problem.now (lottery_value c.args.lottery.now)) in
    let guarded = after begun c.in_ok-family.family c.in_ok-family.ensures in
    let sound = after guarded tt c.in_ok-check_pieces.ensures in
    steps-in g.K.Sink sound c.write_text.ensures
