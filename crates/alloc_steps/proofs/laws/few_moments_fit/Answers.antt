use Rattle.alloc_steps.proofs.SolutionsLemmas.{fits_with_few}
use Rattle.alloc_steps.proofs.laws.few_moments_fit.Goals as goal

pub returns : goal.returns
returns c = fits_with_few
