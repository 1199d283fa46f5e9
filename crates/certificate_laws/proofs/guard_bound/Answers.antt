-- The law is a lemma.
use Rattle.certificate_laws.proofs.GuardBound.{sums_near}
use Rattle.certificate_laws.proofs.guard_bound.Goals as goal

pub returns : goal.returns
returns c = sums_near
