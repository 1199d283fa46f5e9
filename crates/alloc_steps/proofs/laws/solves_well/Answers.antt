use Rattle.alloc_steps.proofs.SolvesWellLemmas.{solves_well_for}
use Rattle.alloc_steps.proofs.laws.solves_well.Goals as goal

pub returns : goal.returns
returns c = solves_well_for
