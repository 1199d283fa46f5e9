use Rattle.std.proofs.Common.{◌≡◌, ℕ, ◌+◌, ◌<◌, length, get_or}
use Rattle.side_finder.specs.Blocks.{IsOverlap, no_overlap}
use Rattle.side_finder.proofs.overlaps.overlaps_of.Given as goal

abbrev pub invariant-loop-set : goal.invariant-loop-set
invariant-loop-set l = record {
  many : length l.row.items + 1 ≡ l.set;
  right : (a : ℕ) → a + 1 < l.set → IsOverlap l.family l.block (a + 1) (get_or l.row.items a no_overlap);
}
