use Rattle.std.proofs.Common.{ltb, rules}
use Rattle.std.proofs.lemmas.List.Sorted.{IsPartitionPoint-from_clause, IsPartitionedBy-ltb}
use Rattle.bounded_flow.specs.declared.search.End.{End}
use Rattle.bounded_flow.proofs.Adjacent.{firsts_more}
use Rattle.bounded_flow.proofs.building.firsts_of.Goals as goal

pub loop-node-preserved : goal.loop-node-preserved
loop-node-preserved c =
    let point = IsPartitionPoint-from_clause (λ (e : End). ltb e.node c.loop-node.node-counter) _ _ c.partition_point.ensures.partitioned
    (IsPartitionedBy-ltb (λ (e : End). e.node) c.args.ends.now c.loop-node.node-counter c.requires.order) (λ a r q k. search rules) in
    rw c.in_ok-push.ensures.items (firsts_more c.loop-node.node-counter c.args.ends.now c.loop-node.first.items c.partition_point.result c.loop-node.invariant point)
