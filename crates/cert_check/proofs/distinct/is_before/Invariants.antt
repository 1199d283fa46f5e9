use Rattle.std.proofs.Common.{◌≡◌, drop}
use Rattle.cert_check.specs.GiveOrder.{gives_before}
use Rattle.cert_check.proofs.distinct.is_before.Given as goal

abbrev pub invariant-loop-i : goal.invariant-loop-i
invariant-loop-i l = gives_before (drop l.i l.gives) (drop l.i l.others) ≡ gives_before l.gives l.others
