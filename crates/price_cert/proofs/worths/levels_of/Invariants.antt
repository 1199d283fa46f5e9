use Rattle.std.proofs.Common.{◌≡◌, ◌+◌, ◌≤◌, IfSome, length, map, drop, reverse, All}
use Rattle.std.specs.Prelude.{◌^◌}
use Rattle.definitions.specs.Certificate.{next_level}
use Rattle.price_cert.specs.Worths.{place_value, levels_ahead}
use Rattle.price_cert.proofs.worths.levels_of.Given as goal

abbrev pub invariant-loop-left : goal.invariant-loop-left
invariant-loop-left l = record {
  inside : l.left ≤ length l.places;
  next : l.next ≡ next_level (map place_value (drop l.left l.places));
  low : IfSome l.next (λ n. n + l.left ≤ 2 ^ 26 + 201);
  levels : reverse l.levels.items ≡ levels_ahead (map place_value (drop l.left l.places));
  lows : All (λ o. IfSome o (λ n. n ≤ 2 ^ 26 + 201)) l.levels.items;
}

abbrev pub decreases-loop-left : goal.decreases-loop-left
decreases-loop-left l = l.left
