-- A lemma.
use Rattle.eating_laws.proofs.Places.{prefix_until}
use Rattle.eating_laws.proofs.place_laws.prefixes_add_up.Goals as goal

pub returns : goal.returns
returns c market D e i k apart = prefix_until market D e i k apart
