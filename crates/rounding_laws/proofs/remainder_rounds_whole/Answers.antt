-- The law is a lemma.
use Rattle.rounding_laws.proofs.Remainder.{remainder_rounds_whole}
use Rattle.rounding_laws.proofs.remainder_rounds_whole.Goals as goal

pub returns : goal.returns
returns c = remainder_rounds_whole
