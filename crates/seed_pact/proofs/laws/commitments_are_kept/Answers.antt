use Rattle.seed_pact.proofs.Kept.{kept}
use Rattle.seed_pact.proofs.laws.commitments_are_kept.Goals as goal

pub returns : goal.returns
returns c = kept
