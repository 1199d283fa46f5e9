use Rattle.alloc_steps.proofs.ReadsBackLemmas.{solution_reads}
use Rattle.alloc_steps.proofs.laws.solutions_read_back.Goals as goal

pub returns : goal.returns
returns c = solution_reads
