use Rattle.std.proofs.Common.{arith}
use Rattle.std.proofs.lemmas.List.{length_push}
use Rattle.bihierarchy.proofs.ParentTable.{parents_more}
use Rattle.bihierarchy.proofs.parents.parents_of.Goals as goal

pub loop-set-preserved : goal.loop-set-preserved
loop-set-preserved c = rw c.in_ok-push.ensures.items (record {
  many = omega (arith, length_push c.loop-set.parents.items c.parent_of.result);
  right = parents_more c.args.family.now c.loop-set.parents.items c.parent_of.result c.loop-set.set c.loop-set.invariant.many c.loop-set.invariant.right c.parent_of.ensures;
})
