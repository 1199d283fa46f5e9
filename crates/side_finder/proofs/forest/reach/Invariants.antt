use Rattle.side_finder.specs.Marks.{AreReached, IsCounted}
use Rattle.side_finder.proofs.forest.reach.Given as goal

abbrev pub invariant-loop-set : goal.invariant-loop-set
invariant-loop-set l = record {
  reached : AreReached l.crossings l.up l.mark l.set l.fn.marks l.marks;
  counted : IsCounted l.any l.fn.marks l.marks;
}
