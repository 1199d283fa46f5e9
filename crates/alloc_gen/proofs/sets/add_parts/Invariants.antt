use Rattle.std.proofs.Common.{◌≡◌, ◌++◌}
use Rattle.alloc_gen.proofs.PartsInOrder.{parts}
use Rattle.alloc_gen.proofs.sets.add_parts.Given as goal

abbrev pub invariant-loop-column : goal.invariant-loop-column
invariant-loop-column l = l.family ≡ record l.initial.family { sets = l.initial.family.sets ++ parts l.count l.step l.ceiling l.column }
