use Rattle.std.proofs.Common.{◌^◌, ◌≤◌, take}
use Rattle.definitions.specs.Scaling.{IsLeastCommonDenominator}
use Rattle.scaled_matrix.proofs.scaling.common_denominator.Given as goal

abbrev pub invariant-loop-index : goal.invariant-loop-index
invariant-loop-index l = record {
  least : IsLeastCommonDenominator (take l.index l.shares.entries) l.multiple;
  fits : l.multiple ≤ 2 ^ 116;
}
