-- The end of a run.
use Rattle.std.proofs.Common.{◌≡◌, refl}
use Rattle.device_core.specs.declared.traits.Sink as Sink
use Rattle.alloc_cli.specs.Finish.{LineOn, Tells}
use Rattle.alloc_cli.specs.Lines.{line_of}
use Rattle.alloc_outcomes.specs.declared.cause.Cause.{Cause}
use Rattle.alloc_outcomes.specs.declared.cause.Cause.TheVariants as causes

-- where the cause isn't Done, err gets its line
pub tells_from_line : {E : Type 0} (sink : Sink.Ghosts E) (old new : E) (cause : Cause) → (cause ≡ causes.Done → ⊥) → LineOn sink (line_of cause) old new → Tells sink old new cause
tells_from_line sink old new causes.Done not_done line = absurd (not_done refl)
tells_from_line sink old new _ not_done line = line
