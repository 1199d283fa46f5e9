use Rattle.std.proofs.Common.{refl}
use Rattle.side_finder.proofs.Marking.{counted_tried, reached_none, reached_tried}
use Rattle.side_finder.proofs.forest.reach.Goals as goal

pub loop-set-init : goal.loop-set-init
loop-set-init c = record { reached = reached_none c.args.crossings.now c.args.up c.args.mark c.args.marks.now; counted = refl }

pub loop-set-preserved : goal.loop-set-preserved
loop-set-preserved c = record {
  reached = reached_tried c.args.crossings.now c.args.up c.args.mark c.args.marks.now c.loop-set.set c.loop-set.marks c.try_mark-any.new.marks c.try_mark-any.result c.try_mark-any.ensures c.loop-set.invariant.reached;
  counted = counted_tried c.args.crossings.now c.args.up c.args.mark c.args.marks.now c.loop-set.set c.loop-set.any c.loop-set.marks c.try_mark-any.new.marks c.try_mark-any.result c.try_mark-any.ensures c.loop-set.invariant.counted;
}
