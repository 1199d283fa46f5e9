use Rattle.alloc_input.proofs.Once.{quotas-once, demands-once}
use Rattle.alloc_input.proofs.laws.quotas_read_once.Goals as goal

pub returns-clause-sets : goal.returns-clause-sets
returns-clause-sets c = quotas-once

pub returns-clause-demands : goal.returns-clause-demands
returns-clause-demands c = demands-once
