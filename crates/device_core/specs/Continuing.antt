-- What a writer does that comes after another one: nothing, where that one was refused.
use Rattle.std.specs.Prelude.{◌≡◌, ℕ, List, Option, Result, Ok, Err}
use Rattle.device_core.specs.declared.faults.SinkFault.{SinkFault}
use Rattle.device_core.specs.Told.{Appended}
use Rattle.device_core.specs.Counts.{WriterCounts}

-- the bytes: a refusal is handed on, and nothing is appended after it
abbrev pub Continued : {T U : Type 0} → Option (List ℕ) → Option (List ℕ) → List ℕ → Result T SinkFault → Result U SinkFault → Type 0
Continued old new text (Ok _) now = Appended old new text now
Continued old new text (Err _) (Ok _) = ⊥
Continued old new text (Err e) (Err f) = (f ≡ e) × (new ≡ old)

-- the counts: they stay after a refusal
abbrev pub ContinuedCounts : {T U : Type 0} → ℕ → ℕ → ℕ → ℕ → Result T SinkFault → Result U SinkFault → Type 0
ContinuedCounts faults faults' short short' (Ok _) now = WriterCounts faults faults' short short' now
ContinuedCounts faults faults' short short' (Err _) now = (faults' ≡ faults) × (short' ≡ short)
