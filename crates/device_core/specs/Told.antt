-- What a sink tells of the bytes that it was given.
use Rattle.std.specs.Prelude.{◌≡◌, ℕ, List, ◌++◌, Option, Result, Ok, Err}
use Rattle.std.specs.Io.KnownBytes.{append_known}
use Rattle.device_core.specs.declared.faults.SinkFault.{SinkFault}

-- a text begins with these bytes
abbrev pub IsFrontOf : List ℕ → List ℕ → Type 0
IsFrontOf front text = (rest : List ℕ) × (front ++ rest ≡ text)

-- some front of the text was appended; what isn't told stays untold
abbrev pub AppendedFront : Option (List ℕ) → Option (List ℕ) → List ℕ → Type 0
AppendedFront old new text = (front : List ℕ) × IsFrontOf front text × (new ≡ append_known old front)

-- the whole text was appended at Ok, and a front of it after a refusal
abbrev pub Appended : {T : Type 0} → Option (List ℕ) → Option (List ℕ) → List ℕ → Result T SinkFault → Type 0
Appended old new text (Ok _) = new ≡ append_known old text
Appended old new text (Err _) = AppendedFront old new text
