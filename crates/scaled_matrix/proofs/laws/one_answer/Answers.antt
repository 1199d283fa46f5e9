use Rattle.scaled_matrix.proofs.OneAnswer as lemmas
use Rattle.scaled_matrix.proofs.laws.one_answer.Goals as goal

pub returns : goal.returns
returns c = lemmas.one_answer
