-- The counts of writers.
use Rattle.std.proofs.Common.{ℕ, Result, Ok, Err}
use Rattle.device_core.specs.declared.faults.SinkFault.{SinkFault}
use Rattle.device_core.specs.declared.faults.SinkFault.TheVariants as sink
use Rattle.device_core.specs.Counts.{WriteCounts, WriterCounts}

-- a single write is a writer
pub writer_counts : {T : Type 0} (faults faults' short short' : ℕ) (r : Result T SinkFault) → WriteCounts faults faults' short short' r → WriterCounts faults faults' short short' r
writer_counts faults faults' short short' (Ok _) h = h
writer_counts faults faults' short short' (Err sink.Failed) h = h
writer_counts faults faults' short short' (Err sink.NoMemory) h = (h.0, h.1.later)
