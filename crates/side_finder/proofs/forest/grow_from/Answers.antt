use Rattle.std.proofs.Common.{◌+◌, ap, arith}
use Rattle.side_finder.specs.Marks.{depth_of}
use Rattle.side_finder.proofs.Growing.{growing_reached, growing_skipped}
use Rattle.side_finder.proofs.forest.grow_from.Goals as goal

pub returns-then-mark-depth-clause-grown : goal.returns-then-mark-depth-clause-grown
returns-then-mark-depth-clause-grown c =
    let deep = ap depth_of c.in-Some.is in
    growing_skipped c.args.crossings.now c.args.start c.args.depth c.args.up (c.args.depth + 1) c.args.marks.now
    (λ k s e. omega (arith, deep, e, c.if-mark-depth.true)) c.requires.before

pub returns-clause-grown : goal.returns-clause-grown
returns-clause-grown c =
    growing_reached c.args.crossings.now c.requires.graph c.args.start c.args.depth c.args.up c.in-Some.mark c.args.marks.now c.reach.new.marks c.requires.known
    c.in-Some.is (omega (arith, c.if-mark-start.false)) (omega (arith, c.if-mark-depth.false)) c.requires.before c.reach.ensures.reached
