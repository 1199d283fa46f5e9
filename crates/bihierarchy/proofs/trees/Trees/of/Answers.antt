use Rattle.std.proofs.Common.{◌+◌, length}
use Rattle.bihierarchy.proofs.Made.{trees_made}
use Rattle.bihierarchy.proofs.trees.Trees.of.Goals as goal

pub invariant_of-result : goal.invariant_of-result
invariant_of-result c =
    let f = c.args.family.now in
    rw (c.len.ensures.value, c.agents.ensures.value, c.columns.ensures.value)
    (trees_made f c.in_ok-parents.parents.items c.in_ok-deepest_one.deepest_one.items c.in_ok-deepest_two.deepest_two.items (length f.sets + 1)
    c.in_ok-parents.ensures c.in_ok-deepest_one.ensures c.in_ok-deepest_two.ensures)
