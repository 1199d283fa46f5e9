-- The law is a lemma.
use Rattle.rounding_laws.proofs.Peeling.{peeled_end}
use Rattle.rounding_laws.proofs.peeling_ends.Goals as goal

pub returns : goal.returns
returns c = peeled_end
