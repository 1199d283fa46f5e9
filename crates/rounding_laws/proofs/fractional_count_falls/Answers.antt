-- The law is a lemma.
use Rattle.rounding_laws.proofs.Falls.{count_falls}
use Rattle.rounding_laws.proofs.fractional_count_falls.Goals as goal

pub returns : goal.returns
returns c = count_falls
