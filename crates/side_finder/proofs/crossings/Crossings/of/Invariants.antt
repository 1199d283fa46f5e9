use Rattle.std.proofs.Common.{◌≡◌, ℕ, ◌<◌, [], map, length, get_or}
use Rattle.side_finder.specs.Blocks.{AreOverlaps}
use Rattle.side_finder.proofs.crossings.Crossings.of.Given as goal

abbrev pub invariant-loop-block : goal.invariant-loop-block
invariant-loop-block l = record {
  many : length l.blocks.items ≡ l.block;
  right : (k : ℕ) → k < l.block → AreOverlaps l.family k (length l.family.sets) (get_or (map (λ row. row.items) l.blocks.items) k []);
}
