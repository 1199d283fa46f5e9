use Rattle.peeling.proofs.Collected.{Collected}
use Rattle.peeling.proofs.collect.all_pieces.Given as goal

abbrev pub invariant-loop-weight : goal.invariant-loop-weight
invariant-loop-weight l = Collected l.fn.peeler l.peeler l.list.items

abbrev pub decreases-loop-weight : goal.decreases-loop-weight
decreases-loop-weight l = l.peeler.left
