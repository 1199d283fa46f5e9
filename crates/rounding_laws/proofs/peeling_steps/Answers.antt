-- The law is a lemma.
use Rattle.rounding_laws.proofs.Peeling.{peeled_step_on}
use Rattle.rounding_laws.proofs.peeling_steps.Goals as goal

pub returns : goal.returns
returns c = peeled_step_on
