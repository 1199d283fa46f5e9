-- Counts of faults and of refused growths over one call. Each is a u64 that stays at its last value.
use Rattle.std.specs.Prelude.{◌≡◌, ℕ, ◌-◌, ◌^◌, ◌<◌, ◌≤◌, ◌⊎◌, Result, Ok, Err}
use Rattle.device_core.specs.declared.faults.LoadFault.{LoadFault}
use Rattle.device_core.specs.declared.faults.LoadFault.TheVariants as load
use Rattle.device_core.specs.declared.faults.SinkFault.{SinkFault}
use Rattle.device_core.specs.declared.faults.SinkFault.TheVariants as sink

-- a count rose: it is greater than before, or stands at the end of its type
abbrev pub Rose : ℕ → ℕ → Type 0
Rose before now = (before < now) ⊎ (now ≡ 2 ^ 64 - 1)

-- the count did not fall, and rose
pub record Counted (before now : ℕ) : Type 0 where
  pub later : before ≤ now
  pub rose : Rose before now

-- the count of a load: Failed comes only where it rose, and no other answer moves it
abbrev pub LoadCounts : {T : Type 0} → ℕ → ℕ → Result T LoadFault → Type 0
LoadCounts before now (Ok _) = now ≡ before
LoadCounts before now (Err load.Failed) = Counted before now
LoadCounts before now (Err load.NoMemory) = now ≡ before

-- both counts of a write: Failed raises the faults, NoMemory the short writes, and nothing else moves either
abbrev pub WriteCounts : {T : Type 0} → ℕ → ℕ → ℕ → ℕ → Result T SinkFault → Type 0
WriteCounts faults faults' short short' (Ok _) = (faults' ≡ faults) × (short' ≡ short)
WriteCounts faults faults' short short' (Err sink.Failed) = Counted faults faults' × (short' ≡ short)
WriteCounts faults faults' short short' (Err sink.NoMemory) = (faults' ≡ faults) × Counted short short'

-- both counts of a flush, which never answers NoMemory
abbrev pub FlushCounts : {T : Type 0} → ℕ → ℕ → ℕ → ℕ → Result T SinkFault → Type 0
FlushCounts faults faults' short short' (Ok _) = (faults' ≡ faults) × (short' ≡ short)
FlushCounts faults faults' short short' (Err sink.Failed) = Counted faults faults' × (short' ≡ short)
FlushCounts faults faults' short short' (Err sink.NoMemory) = ⊥

-- both counts of a writer of many pieces, which may want memory of its own before it writes any
abbrev pub WriterCounts : {T : Type 0} → ℕ → ℕ → ℕ → ℕ → Result T SinkFault → Type 0
WriterCounts faults faults' short short' (Ok _) = (faults' ≡ faults) × (short' ≡ short)
WriterCounts faults faults' short short' (Err sink.Failed) = Counted faults faults' × (short' ≡ short)
WriterCounts faults faults' short short' (Err sink.NoMemory) = (faults' ≡ faults) × (short ≤ short')
