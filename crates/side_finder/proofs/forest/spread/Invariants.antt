use Rattle.std.proofs.Common.{◌+◌, ◌<◌}
use Rattle.side_finder.specs.Marks.{AreGrowing, free_in}
use Rattle.side_finder.proofs.forest.spread.Given as goal

abbrev pub invariant-loop-depth : goal.invariant-loop-depth
invariant-loop-depth l = record {
  grown : AreGrowing l.crossings l.start l.depth 0 l.depth l.marks;
  few : l.depth + free_in l.marks < l.crossings.size;
}

abbrev pub decreases-loop-depth : goal.decreases-loop-depth
decreases-loop-depth l = free_in l.marks
