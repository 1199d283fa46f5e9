use Rattle.std.proofs.Common.{None}
use Rattle.definitions.proofs.FirstFaults.{first-fault, fault-is-first}
use Rattle.alloc_input.specs.Matrices.{check_matrix}
use Rattle.alloc_input.specs.Prefs as prefs
use Rattle.alloc_input.specs.Quotas as quotas
use Rattle.alloc_input.proofs.laws.first_faults.Goals as goal

pub returns-clause-preferences : goal.returns-clause-preferences
returns-clause-preferences c = λ objects rows n k. (fault-is-first (prefs.check_record objects) prefs.check_end rows n k, first-fault (prefs.check_record objects) prefs.check_end rows n k)

pub returns-clause-quotas : goal.returns-clause-quotas
returns-clause-quotas c = λ g rows n k. (fault-is-first (quotas.check_record g) (λ _. None) rows n k, first-fault (quotas.check_record g) (λ _. None) rows n k)

pub returns-clause-matrix : goal.returns-clause-matrix
returns-clause-matrix c = λ rows n k. (fault-is-first check_matrix prefs.check_end rows n k, first-fault check_matrix prefs.check_end rows n k)
