use Rattle.lottery_laws.proofs.NearLemmas.{pieces_near}
use Rattle.lottery_laws.proofs.guarded_are_near.Goals as goal

pub returns : goal.returns
returns c = pieces_near
