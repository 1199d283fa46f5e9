-- The law is a lemma.
use Rattle.rounding_laws.proofs.Peeling.{peeled_start}
use Rattle.rounding_laws.proofs.peeling_starts.Goals as goal

pub returns : goal.returns
returns c = peeled_start
