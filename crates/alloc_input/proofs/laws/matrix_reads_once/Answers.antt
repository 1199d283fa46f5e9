use Rattle.alloc_input.proofs.OneMatrix.{matrix-once}
use Rattle.alloc_input.proofs.laws.matrix_reads_once.Goals as goal

pub returns : goal.returns
returns c = matrix-once
