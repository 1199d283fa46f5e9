use Rattle.std.proofs.Common.{List, Option, sym, subst, arith}
use Rattle.std.proofs.lemmas.List.Sums.{count_by-le-length}
use Rattle.side_finder.specs.declared.forest.Mark.{Mark}
use Rattle.side_finder.specs.Marks.{AreGrowing, is_free, mark_at}
use Rattle.side_finder.proofs.Growing.{growing_begins, growing_ends, growing_next, searched_past}
use Rattle.side_finder.proofs.Marking.{fewer_free, free_from, marked_from}
use Rattle.side_finder.proofs.forest.spread.Goals as goal

pub returns-then-is_some : goal.returns-then-is_some
returns-then-is_some c = searched_past c.args.crossings.now c.args.start c.args.marks.now (marked_from (mark_at c.args.marks.now c.args.start) c.if-is_some.ensures) c.requires.before

pub loop-depth-init : goal.loop-depth-init
loop-depth-init c =
    let g = c.args.crossings.now in
    let start = c.args.start in
    let marks = c.args.marks.now in
    let free = free_from (mark_at marks start) c.if-is_some.ensures in
    let fewer = fewer_free marks start (record { up = start; depth = 0; start = start }) (omega (arith, c.requires.known, c.requires.before.lawful.many)) free in
    record {
      grown = growing_begins g start marks c.requires.known free c.requires.before;
      few = omega (arith, fewer, count_by-le-length is_free marks, c.requires.before.lawful.many);
    }

pub loop-depth-preserved : goal.loop-depth-preserved
loop-depth-preserved c = record {
  grown = growing_next c.args.crossings.now c.args.start c.loop-depth.depth c.grow.new.marks c.grow.ensures.grown;
  few = omega (arith, c.loop-depth-test.ensures.counted, c.loop-depth.invariant.few);
}

pub returns : goal.returns
returns c =
    let g = c.args.crossings.now in
    growing_ends g c.args.start c.loop-depth.depth c.grow.new.marks
    (subst (λ (marks : List (Option Mark)). AreGrowing g c.args.start c.loop-depth.depth 0 c.loop-depth.depth marks) (sym c.loop-depth-test.ensures.counted) c.loop-depth.invariant.grown)
    c.grow.ensures.grown
