use Rattle.std.proofs.Common.{◌+◌}
use Rattle.side_finder.specs.Marks.{AreGrowing, IsCounted}
use Rattle.side_finder.proofs.forest.grow.Given as goal

abbrev pub invariant-loop-up : goal.invariant-loop-up
invariant-loop-up l = record {
  grown : AreGrowing l.crossings l.start l.depth l.up (l.depth + 1) l.marks;
  counted : IsCounted l.any l.fn.marks l.marks;
}
