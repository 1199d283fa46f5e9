-- Both directions are lemmas.
use Rattle.definitions.proofs.FirstFaults.{first-fault, fault-is-first}
use Rattle.definitions.proofs.laws.first_fault_law.Goals as goal

pub returns : goal.returns
returns g c check at_end rows n k = (fault-is-first check at_end rows n k, first-fault check at_end rows n k)
