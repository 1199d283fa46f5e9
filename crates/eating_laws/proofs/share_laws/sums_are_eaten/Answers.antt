-- A lemma.
use Rattle.eating_laws.proofs.Shares.{sum_is_eaten}
use Rattle.eating_laws.proofs.share_laws.sums_are_eaten.Goals as goal

pub returns : goal.returns
returns c market D e cells apart = sum_is_eaten market D e cells apart
