use Rattle.std.proofs.Common.{refl}
use Rattle.side_finder.proofs.Growing.{growing_looser}
use Rattle.side_finder.proofs.Marking.{counted_both}
use Rattle.side_finder.proofs.forest.grow.Goals as goal

pub loop-up-init : goal.loop-up-init
loop-up-init c = record { grown = growing_looser c.args.crossings.now c.args.start c.args.depth c.args.marks.now c.requires.before; counted = refl }

pub loop-up-preserved : goal.loop-up-preserved
loop-up-preserved c = record {
  grown = c.grow_from-any.ensures.grown;
  counted = counted_both c.loop-up.any c.grow_from-any.result c.args.marks.now c.loop-up.marks c.grow_from-any.new.marks c.loop-up.invariant.counted c.grow_from-any.ensures.counted;
}
