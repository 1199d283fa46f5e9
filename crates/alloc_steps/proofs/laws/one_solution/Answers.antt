use Rattle.alloc_steps.proofs.SolutionsLemmas.{one_but_pieces}
use Rattle.alloc_steps.proofs.laws.one_solution.Goals as goal

pub returns : goal.returns
returns c = one_but_pieces
