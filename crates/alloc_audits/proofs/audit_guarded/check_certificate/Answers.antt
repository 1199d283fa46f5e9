use Rattle.std.proofs.Common.{inr, refl}
use Rattle.alloc_audits.specs.Audit.{certified_fault}
use Rattle.alloc_audits.proofs.VerdictsLemmas.{no_fault, this_fault}
use Rattle.alloc_audits.proofs.audit_guarded.check_certificate.Goals as goal
use Rattle.lottery_file.specs.Lotteries.{lottery_value}

pub returns-in-Ok : goal.returns-in-Ok
returns-in-Ok c = record {
  problem = c.in-Ok.ensures.problem;
  lottery = c.requires;
  passes = no_fault (certified_fault c.args.problem.now (lottery_value c.args.lottery.now)) tt c.in-Ok.ensures.first;
}

pub returns-in-Err : goal.returns-in-Err
returns-in-Err c =
    inr (record { kind = tt; fault = c.in-Err.fault; holds = record { is = this_fault (certified_fault c.args.problem.now (lottery_value c.args.lottery.now)) c.in-Err.fault c.in-Err.ensures.first }; is = refl })
