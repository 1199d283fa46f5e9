use Rattle.scaled_matrix.proofs.OneAnswer.{answer_is_due}
use Rattle.scaled_matrix.proofs.laws.answers_are_exact.Goals as goal

pub returns : goal.returns
returns c = answer_is_due
