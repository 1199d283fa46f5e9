use Rattle.lottery_laws.proofs.SplitsWellLemmas.{well_of}
use Rattle.lottery_laws.proofs.splits_well.Goals as goal

pub returns : goal.returns
returns c = well_of
