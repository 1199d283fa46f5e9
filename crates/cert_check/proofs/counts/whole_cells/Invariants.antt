use Rattle.std.proofs.Common.{◌≡◌, ◌≤◌, take, count_by}
use Rattle.std.specs.Prelude.{nat_le}
use Rattle.cert_check.proofs.counts.whole_cells.Given as goal

abbrev pub invariant-loop-index : goal.invariant-loop-index
invariant-loop-index l = (l.count ≡ count_by (λ u. nat_le l.x.denominator u) (take l.index l.x.units)) × (l.count ≤ l.index)
