use Rattle.alloc_audits.proofs.SoundAudits.{sound_passes}
use Rattle.alloc_audits.proofs.laws.solutions_pass.Goals as goal
use Rattle.lottery_laws.proofs.SoundLemmas.{solution_sound}

pub returns : goal.returns
returns c = λ p l s. sound_passes p l (solution_sound p.family p l s)
