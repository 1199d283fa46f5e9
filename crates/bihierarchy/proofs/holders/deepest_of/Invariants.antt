use Rattle.bihierarchy.specs.Tables.{AreDeepest}
use Rattle.bihierarchy.proofs.holders.deepest_of.Given as goal

abbrev pub invariant-loop-set : goal.invariant-loop-set
invariant-loop-set l = AreDeepest l.family l.side l.set l.deepest.items
