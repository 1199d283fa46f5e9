use Rattle.alloc_input.proofs.Once.{problem-once}
use Rattle.alloc_input.proofs.laws.problem_reads_once.Goals as goal

pub returns : goal.returns
returns c = problem-once
