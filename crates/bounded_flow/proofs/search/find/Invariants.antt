use Rattle.std.proofs.Common.{◌-◌, length}
use Rattle.bounded_flow.proofs.Exploring.{Explored}
use Rattle.bounded_flow.proofs.search.find.Given as goal

abbrev pub invariant-loop-taken : goal.invariant-loop-taken
invariant-loop-taken l = Explored l.edges (length l.fn.search.place.items) l.from l.search l.taken

abbrev pub decreases-loop-taken : goal.decreases-loop-taken
decreases-loop-taken l = length l.fn.search.place.items - l.taken
