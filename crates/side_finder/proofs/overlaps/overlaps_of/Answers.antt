use Rattle.std.proofs.Common.{arith}
use Rattle.std.proofs.lemmas.List.{length_push}
use Rattle.side_finder.proofs.Words.{overlaps_more}
use Rattle.side_finder.proofs.overlaps.overlaps_of.Goals as goal

pub loop-set-preserved : goal.loop-set-preserved
loop-set-preserved c = rw c.in_ok-push.ensures.items (record {
  many = omega (arith, length_push c.loop-set.row.items c.overlap_of.result);
  right = overlaps_more c.args.family.now c.args.block c.loop-set.row.items c.overlap_of.result c.loop-set.set c.loop-set.invariant.many c.loop-set.invariant.right c.overlap_of.ensures;
})
