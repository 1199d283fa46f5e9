use Rattle.alloc_audits.proofs.SoundAudits.{passes_sound_own, sound_passes}
use Rattle.alloc_audits.proofs.laws.sound_pass.Goals as goal

pub returns : goal.returns
returns c = λ p l h w. (passes_sound_own p l h w, sound_passes p l)
