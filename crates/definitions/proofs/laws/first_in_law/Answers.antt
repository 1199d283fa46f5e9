-- Each direction is a lemma.
use Rattle.definitions.proofs.FirstFaults.{none-in, none-is-in, first-in, found-is-first}
use Rattle.definitions.proofs.laws.first_in_law.Goals as goal

pub returns : goal.returns
returns g c look start count = ((none-is-in look start count, none-in look start count), λ f. (found-is-first look start count f, first-in look start count f))
