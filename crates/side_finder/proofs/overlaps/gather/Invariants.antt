use Rattle.side_finder.proofs.Words.{AreGathered}
use Rattle.side_finder.proofs.overlaps.gather.Given as goal

abbrev pub invariant-loop-cell : goal.invariant-loop-cell
invariant-loop-cell l = AreGathered l.words l.columns l.cell-index l.cells l.sharing l.containing
