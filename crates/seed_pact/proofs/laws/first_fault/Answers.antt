use Rattle.definitions.proofs.FirstFaults.{first-fault, fault-is-first}
use Rattle.seed_pact.specs.Checks.{check_record, check_end}
use Rattle.seed_pact.proofs.laws.first_fault.Goals as goal

pub returns : goal.returns
returns c = λ rows n k. (fault-is-first check_record check_end rows n k, first-fault check_record check_end rows n k)
