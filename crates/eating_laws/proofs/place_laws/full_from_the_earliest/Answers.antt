-- A lemma.
use Rattle.eating_laws.proofs.Places.{full_is}
use Rattle.eating_laws.proofs.place_laws.full_from_the_earliest.Goals as goal

pub returns : goal.returns
returns c market D e i a = full_is market D e i a
