-- Records that wait in a buffer until there are enough of them for a write.
use Rattle.std.specs.Prelude.{◌≡◌, ℕ, List, ◌++◌, Option, Result, Ok, Err}
use Rattle.std.specs.Io.KnownBytes.{append_known}
use Rattle.device_core.specs.declared.faults.SinkFault.{SinkFault}
use Rattle.device_core.specs.Counts.{WriterCounts}
use Rattle.device_core.specs.Told.{AppendedFront}

-- the text was added to what waited, of which the first bytes were written and the others wait now; after a refusal a front was written
abbrev pub Added : {T : Type 0} → Option (List ℕ) → Option (List ℕ) → List ℕ → List ℕ → List ℕ → Result T SinkFault → Type 0
Added old new waited waits text (Ok _) = (front : List ℕ) × (new ≡ append_known old front) × (front ++ waits ≡ waited ++ text)
Added old new waited waits text (Err _) = AppendedFront old new (waited ++ text)

-- a text is put into a buffer before a sink: what the sink has written and flushed, and how its counts moved
pub record Puts {S T : Type 0} (written : S → Option (List ℕ)) (flushed faults short : S → ℕ) (old new : S) (waited waits text : List ℕ) (result : Result T SinkFault) : Type 0 where
  pub bytes : Added (written old) (written new) waited waits text result
  pub flushed_stays : flushed new ≡ flushed old
  pub cause : WriterCounts (faults old) (faults new) (short old) (short new) result
