-- The law is a lemma.
use Rattle.certificate_laws.proofs.Dominance.{more_worth}
use Rattle.certificate_laws.proofs.dominance_raises_worth.Goals as goal

pub returns : goal.returns
returns c = more_worth
