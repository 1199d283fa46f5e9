use Rattle.std.proofs.Common.{◌≡◌, ℕ, ◌∙◌, None, length, replicate, ap, arith}
use Rattle.std.proofs.lemmas.List.{with_items_is}
use Rattle.side_finder.proofs.Growing.{searched_all, searched_none}
use Rattle.side_finder.proofs.forest.forest_of.Goals as goal

pub loop-start-init : goal.loop-start-init
loop-start-init c = searched_none c.args.crossings.now c.in_ok-marks.marks.items (c.in_ok-marks.ensures ∙ ap (λ (n : ℕ). replicate n None) c.len.ensures)

pub loop-start-preserved : goal.loop-start-preserved
loop-start-preserved c =
    let size : length c.spread.new.marks ≡ c.loop-start.marks.len = c.spread.auto.marks ∙ c.deref_mut.ensures.len in
    rw (with_items_is c.loop-start.marks c.spread.new.marks size) c.spread.ensures

pub returns : goal.returns
returns c = searched_all c.args.crossings.now c.loop-start.start c.loop-start.marks.items (omega (arith, c.loop-start-test.false)) c.loop-start.invariant
