use Rattle.std.proofs.Common.{◌≡◌, ◌*◌, take}
use Rattle.alloc_steps.proofs.copies.shares_of.Given as goal

-- the units so far
abbrev pub invariant-loop-agent : goal.invariant-loop-agent
invariant-loop-agent l = l.units.items ≡ take (l.agent * l.x.columns) l.x.units
