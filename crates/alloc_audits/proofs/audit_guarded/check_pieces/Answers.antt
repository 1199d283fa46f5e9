use Rattle.std.proofs.Common.{inr, refl}
use Rattle.alloc_audits.proofs.audit_guarded.check_pieces.Goals as goal

pub returns-in-Ok : goal.returns-in-Ok
returns-in-Ok c = record { is = c.in-Ok.ensures }

pub returns-in-Err : goal.returns-in-Err
returns-in-Err c = inr (record { kind = tt; fault = c.in-Err.fault; holds = record { is = c.in-Err.ensures }; is = refl })
