use Rattle.std.proofs.Common.{◌≡◌, take}
use Rattle.alloc_input.specs.Objects.{declared}
use Rattle.alloc_input.proofs.quotas.declared.declared_objects.Given as goal

abbrev pub invariant-loop-i : goal.invariant-loop-i
invariant-loop-i l = l.objects ≡ declared (take l.i l.rows)
