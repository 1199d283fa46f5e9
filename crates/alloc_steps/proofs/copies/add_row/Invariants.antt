use Rattle.std.proofs.Common.{◌≡◌, ◌+◌, ◌*◌, take}
use Rattle.alloc_steps.proofs.copies.add_row.Given as goal

-- the units so far
abbrev pub invariant-loop-object : goal.invariant-loop-object
invariant-loop-object l = l.units.items ≡ take (l.agent * l.x.columns + l.object) l.x.units
