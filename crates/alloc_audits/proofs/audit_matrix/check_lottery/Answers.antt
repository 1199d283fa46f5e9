use Rattle.std.proofs.Common.{inr, refl}
use Rattle.alloc_audits.specs.AuditMatrix.{FailsFirst, matrix_fault}
use Rattle.alloc_audits.proofs.SplitAudits.{passes_split}
use Rattle.alloc_audits.proofs.VerdictsLemmas.{no_fault, this_fault}
use Rattle.alloc_audits.proofs.audit_matrix.check_lottery.Goals as goal
use Rattle.lottery_file.specs.Lotteries.{lottery_value}

pub returns-in-Ok : goal.returns-in-Ok
returns-in-Ok c =
    let given = c.args.shares.now in
    let x = c.args.x.now in
    let f = c.args.family.now in
    let l = lottery_value c.args.lottery.now in
    passes_split given x f l c.requires.shares c.requires.units c.requires.matrix c.requires.agents c.requires.columns c.in-Ok.ensures.family c.requires.lawful
    (no_fault (matrix_fault given x f l) tt c.in-Ok.ensures.first)

pub returns-in-Err : goal.returns-in-Err
returns-in-Err c =
    let given = c.args.shares.now in
    let x = c.args.x.now in
    let f = c.args.family.now in
    let l = lottery_value c.args.lottery.now in
    let holds : FailsFirst given x f l c.in-Err.fault = record { family = c.in-Err.ensures.family; first = this_fault (matrix_fault given x f l) c.in-Err.fault c.in-Err.ensures.first } in
    inr (record { kind = tt; fault = c.in-Err.fault; holds = holds; is = refl })
