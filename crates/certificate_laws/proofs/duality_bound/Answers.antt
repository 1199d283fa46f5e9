-- The law is a lemma.
use Rattle.certificate_laws.proofs.Duality.{no_more_worth}
use Rattle.certificate_laws.proofs.duality_bound.Goals as goal

pub returns : goal.returns
returns c = no_more_worth
