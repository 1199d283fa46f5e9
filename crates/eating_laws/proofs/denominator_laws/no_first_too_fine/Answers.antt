-- The denominator of the one is at least that of the other.
use Rattle.eating_laws.proofs.TooFine.{not_too_fine}
use Rattle.eating_laws.proofs.denominator_laws.no_first_too_fine.Goals as goal

pub returns : goal.returns
returns c market D D' m e e' table within fine = not_too_fine market D D' m e e' table within fine
