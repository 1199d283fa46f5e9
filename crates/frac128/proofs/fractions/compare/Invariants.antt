use Rattle.std.proofs.Common.{◌≡◌, ◌+◌, ◌≤◌}
use Rattle.frac128.specs.Order.{cross_cmp}
use Rattle.frac128.proofs.fractions.compare.Given as goal

abbrev pub invariant-loop-by_quotient : goal.invariant-loop-by_quotient
invariant-loop-by_quotient l =
    record { b_positive : 1 ≤ l.b; d_positive : 1 ≤ l.d; same : cross_cmp l.a l.b l.c l.d ≡ cross_cmp l.fn.a l.fn.b l.fn.c l.fn.d }

abbrev pub decreases-loop-by_quotient : goal.decreases-loop-by_quotient
decreases-loop-by_quotient l = l.b + l.d
