use Rattle.std.proofs.Common.{◌≡◌, take}
use Rattle.alloc_steps.proofs.copies.names_of.Given as goal

-- the names so far
abbrev pub invariant-loop-place : goal.invariant-loop-place
invariant-loop-place l = l.copy ≡ take l.place l.names
