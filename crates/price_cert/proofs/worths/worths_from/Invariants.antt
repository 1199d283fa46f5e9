use Rattle.std.proofs.Common.{◌≡◌, ◌++◌, drop, pos, ◌+ℤ◌, ◌≤ℤ◌}
use Rattle.price_cert.specs.Worths.{worths_by}
use Rattle.price_cert.proofs.worths.worths_from.Given as goal

abbrev pub invariant-loop-level : goal.invariant-loop-level
invariant-loop-level l = record {
  made : l.worths.items ++ worths_by l.before (drop l.level-index l.levels) ≡ worths_by (pos 0) l.levels;
  low : pos 0 ≤ℤ (l.before +ℤ pos l.level-index);
}
