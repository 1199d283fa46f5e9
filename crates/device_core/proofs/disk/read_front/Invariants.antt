use Rattle.std.proofs.Common.{◌+◌, ◌-◌, ◌≤◌, length}
use Rattle.std.specs.Io.KnownBytes.{Consumes}
use Rattle.device_core.proofs.disk.read_front.Given as goal

-- what the vector holds is what is gone from the file
abbrev pub invariant-loop-block : goal.invariant-loop-block
invariant-loop-block g l = (length l.into.items ≤ l.limit + 1) × Consumes (g.S.Read.remaining l.initial.file) (g.S.Read.remaining l.file) l.into.items

abbrev pub decreases-loop-block : goal.decreases-loop-block
decreases-loop-block g l = l.limit + 1 - length l.into.items
