use Rattle.std.proofs.Common.{inr, refl}
use Rattle.alloc_audits.specs.Audit.{audit_fault}
use Rattle.alloc_audits.proofs.SoundAudits.{passes_sound_own}
use Rattle.alloc_audits.proofs.VerdictsLemmas.{no_fault, this_fault}
use Rattle.alloc_audits.proofs.audit.check_lottery.Goals as goal
use Rattle.lottery_file.specs.Lotteries.{lottery_value}

pub returns-in-Ok : goal.returns-in-Ok
returns-in-Ok c =
    let l = lottery_value c.args.lottery.now in
    passes_sound_own c.args.problem.now l c.in-Ok.ensures.problem c.requires (no_fault (audit_fault c.args.problem.now l) tt c.in-Ok.ensures.first)

pub returns-in-Err : goal.returns-in-Err
returns-in-Err c =
    let l = lottery_value c.args.lottery.now in
    inr (record { kind = tt; fault = c.in-Err.fault; holds = record { is = this_fault (audit_fault c.args.problem.now l) c.in-Err.fault c.in-Err.ensures.first }; is = refl })
