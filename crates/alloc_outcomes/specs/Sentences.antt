-- What the sentences of the headline are made of: a run did what is said of it, or one of what they
-- leave open came.
use Rattle.std.specs.Prelude.{ℕ, List, Option}
use Rattle.device_core.specs.Counts.{Rose}
use Rattle.device_core.specs.declared.traits.Files as Files
use Rattle.device_core.specs.declared.traits.Sink as Sink
use Rattle.alloc_outcomes.specs.declared.cause.Cause.{Cause}
use Rattle.alloc_outcomes.specs.declared.cause.Cause.TheVariants as causes

-- how often a load of the files, and a write or flush of the output, has failed
pub record Counts : Type 0 where
  pub files : ℕ
  pub out : ℕ

abbrev pub counts_of : {F K : Type 0} → Files.Ghosts F → Sink.Ghosts K → F → K → Counts
counts_of device sink files out = record { files = device.faults files; out = sink.faults out }

-- a run, as its sentence sees it: what the output held before and tells that it holds after, the counts
-- before and after, and the cause
pub record Run : Type 0 where
  pub before : List ℕ
  pub written : Option (List ℕ)
  pub counts : Counts
  pub counts_after : Counts
  pub cause : Cause

-- Done as it is said; or a denominator passes its limit, and what is said of it holds; a load or a
-- write failed, or memory was refused
abbrev pub KeepsBy : (done : Type 0) → (too_fine : ℕ → Type 0) → (old new : Counts) → Cause → Type 0
KeepsBy done too_fine old new causes.Done = done
KeepsBy done too_fine old new (causes.TooFine denominator) = too_fine denominator
KeepsBy done too_fine old new (causes.ReadFault file) = Rose old.files new.files
KeepsBy done too_fine old new causes.WriteFault = Rose old.out new.out
KeepsBy done too_fine old new causes.NoMemory = Unit {0}
KeepsBy done too_fine old new _ = ⊥

abbrev pub Keeps : (done : Type 0) → (too_fine : ℕ → Type 0) → Run → Type 0
Keeps done too_fine run = KeepsBy done too_fine run.counts run.counts_after run.cause
