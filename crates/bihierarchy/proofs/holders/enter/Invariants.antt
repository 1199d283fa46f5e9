use Rattle.bihierarchy.proofs.Entering.{IsEntering}
use Rattle.bihierarchy.proofs.holders.enter.Given as goal

abbrev pub invariant-loop-cell : goal.invariant-loop-cell
invariant-loop-cell l = IsEntering l.family l.set l.cell-index l.table
