use Rattle.std.proofs.Common.{◌≡◌, take}
use Rattle.alloc_input.specs.Reading.{values}
use Rattle.alloc_input.proofs.quotas.closing.close_family.Given as goal

abbrev pub invariant-loop-i : goal.invariant-loop-i
invariant-loop-i l = l.family ≡ record { agents = l.agents; columns = l.columns; sets = values (take l.i l.sets) }
