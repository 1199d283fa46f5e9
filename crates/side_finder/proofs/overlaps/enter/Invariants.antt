use Rattle.side_finder.specs.Blocks.{AreEntered}
use Rattle.side_finder.proofs.overlaps.enter.Given as goal

abbrev pub invariant-loop-cell : goal.invariant-loop-cell
invariant-loop-cell l = AreEntered l.family l.set l.bit l.cell-index l.fn.words l.words
