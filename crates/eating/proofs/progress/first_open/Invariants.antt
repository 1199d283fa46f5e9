use Rattle.std.proofs.Common.{◌-◌, length}
use Rattle.eating.specs.Seats.{IsSoFar}
use Rattle.eating.proofs.progress.first_open.Given as goal

abbrev pub invariant-loop-place : goal.invariant-loop-place
invariant-loop-place l = IsSoFar l.unit l.moments l.line l.place

abbrev pub decreases-loop-place : goal.decreases-loop-place
decreases-loop-place l = length l.line.columns - l.place
