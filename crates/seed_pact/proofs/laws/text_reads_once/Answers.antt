use Rattle.seed_pact.proofs.ReadOnce.{one-value, one-fault, not-both, one-of-two}
use Rattle.seed_pact.proofs.laws.text_reads_once.Goals as goal

pub returns-clause-value : goal.returns-clause-value
returns-clause-value c = one-value

pub returns-clause-fault : goal.returns-clause-fault
returns-clause-fault c = one-fault

pub returns-clause-either : goal.returns-clause-either
returns-clause-either c = not-both

pub returns-clause-always : goal.returns-clause-always
returns-clause-always c = one-of-two
