use Rattle.std.proofs.Common.{◌*◌}
use Rattle.alloc_steps.specs.Filling.{IsFilledBefore}
use Rattle.alloc_steps.proofs.counts.fill_counts.Given as goal

abbrev pub invariant-loop-agent : goal.invariant-loop-agent
invariant-loop-agent l = IsFilledBefore l.peeler (l.agent * l.peeler.columns) l.counts
