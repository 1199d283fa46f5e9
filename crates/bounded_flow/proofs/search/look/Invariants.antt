use Rattle.std.proofs.Common.{◌-◌, length, get_or}
use Rattle.bounded_flow.proofs.Looking.{Looked}
use Rattle.bounded_flow.proofs.search.look.Given as goal

abbrev pub invariant-loop-at : goal.invariant-loop-at
invariant-loop-at l = Looked l.edges (length l.fn.search.place.items) l.fn.search l.search l.ends (get_or l.adjacency.first.items l.node 0) l.at l.node

abbrev pub decreases-loop-at : goal.decreases-loop-at
decreases-loop-at l = length l.ends - l.at
