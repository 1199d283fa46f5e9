use Rattle.std.proofs.Common.{◌≡◌, ℕ, ◌+◌, ◌-◌, ◌/◌, ◌<◌, length}
use Rattle.definitions.specs.Sets.{set_sum, units_of}
use Rattle.cert_check.specs.HolderTables.{bounds_at}
use Rattle.cert_check.specs.PieceFaults.{cells_in_set}
use Rattle.cert_check.proofs.set_sums.bounds_of.Given as goal

abbrev pub invariant-loop-index : goal.invariant-loop-index
invariant-loop-index l = record {
  many : length l.list.items ≡ l.index;
  low : (s : ℕ) → s < l.index → (bounds_at l.list.items s).low ≡ set_sum (units_of l.x) (cells_in_set l.family s) / l.x.denominator;
  high : (s : ℕ) → s < l.index → (bounds_at l.list.items s).high ≡ (set_sum (units_of l.x) (cells_in_set l.family s) + l.x.denominator - 1) / l.x.denominator;
}
