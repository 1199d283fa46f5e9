-- The law is a lemma.
use Rattle.certificate_laws.proofs.GuardedSides.{guarded_apart}
use Rattle.certificate_laws.proofs.guarded_is_bihierarchy.Goals as goal

pub returns : goal.returns
returns c = guarded_apart
