use Rattle.std.proofs.Common.{◌≡◌, ◌*◌, ◌≤◌, take}
use Rattle.std.specs.Prelude.{sum}
use Rattle.scaled_matrix.specs.Scaling.{units_in}
use Rattle.scaled_matrix.proofs.scaling.units_over.Given as goal

abbrev pub invariant-loop-index : goal.invariant-loop-index
invariant-loop-index l = record {
  units : l.units.items ≡ take l.index (units_in l.denominator l.shares.entries);
  total : l.total ≡ sum (take l.index (units_in l.denominator l.shares.entries));
  within : l.total ≤ 1000 * l.denominator;
}
