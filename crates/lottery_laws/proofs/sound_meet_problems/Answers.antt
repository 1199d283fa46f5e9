use Rattle.lottery_laws.proofs.SoundLemmas.{sound_for_meets}
use Rattle.lottery_laws.proofs.sound_meet_problems.Goals as goal

pub returns : goal.returns
returns c = sound_for_meets
