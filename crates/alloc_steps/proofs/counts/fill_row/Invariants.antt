use Rattle.std.proofs.Common.{◌+◌, ◌*◌}
use Rattle.alloc_steps.specs.Filling.{IsFilledBefore}
use Rattle.alloc_steps.proofs.counts.fill_row.Given as goal

abbrev pub invariant-loop-object : goal.invariant-loop-object
invariant-loop-object l = IsFilledBefore l.peeler (l.agent * l.peeler.columns + l.object) l.counts
