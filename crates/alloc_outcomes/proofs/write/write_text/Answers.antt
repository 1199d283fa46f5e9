use Rattle.std.proofs.Common.{Err, refl}
use Rattle.device_core.proofs.Counting.{writer_counts}
use Rattle.alloc_outcomes.proofs.StepsLemmas.{steps-unwritten}
use Rattle.alloc_outcomes.proofs.write.write_text.Goals as goal

pub returns-in_err-write : goal.returns-in_err-write
returns-in_err-write g c =
    steps-unwritten g.K.Sink _ _ c.in_err-write.field-0.0 _ refl c.in_err-write.ensures.bytes (writer_counts {T = Unit {0}} _ _ _ _ (Err c.in_err-write.field-0.0) c.in_err-write.ensures.cause) c.from_residual.ensures.1
