use Rattle.lottery_laws.proofs.SoundLemmas.{solution_sound}
use Rattle.lottery_laws.proofs.solutions_are_sound.Goals as goal

pub returns : goal.returns
returns c = solution_sound
