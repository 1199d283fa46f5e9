use Rattle.side_finder.specs.Marks.{AreSearched}
use Rattle.side_finder.proofs.forest.forest_of.Given as goal

abbrev pub invariant-loop-start : goal.invariant-loop-start
invariant-loop-start l = AreSearched l.crossings l.start l.marks.items
