-- A lemma, at the limit 2^116.
use Rattle.eating_laws.proofs.TooFine.{one_first}
use Rattle.eating_laws.proofs.denominator_laws.one_first_too_fine.Goals as goal

pub returns : goal.returns
returns c market D D' m m' e e' h h' = one_first market D D' m m' e e' h h'
