use Rattle.std.proofs.Common.{arith}
use Rattle.bounded_flow.proofs.Making.{more_sets}
use Rattle.bounded_flow.proofs.building.edges_of.Goals as goal

pub loop-set-preserved : goal.loop-set-preserved
loop-set-preserved c =
    rw c.in_ok-push.ensures.items (more_sets c.args.family.now c.args.trees.now c.loop-set.edges.items c.set_edge.result c.loop-set.set (omega arith) c.loop-set.invariant c.set_edge.ensures)
