use Rattle.std.proofs.Common.{◌∙◌}
use Rattle.alloc_input.proofs.MarkFacts.{cells-none, cells-more}
use Rattle.alloc_input.proofs.quotas.marks.list_cells.Goals as goal

pub loop-i-init : goal.loop-i-init
loop-i-init c = c.new-cells.ensures.items ∙ cells-none c.args.marks.now.columns c.args.marks.now.rows.items

pub loop-i-preserved : goal.loop-i-preserved
loop-i-preserved c =
    cells-more c.loop-i.i c.args.marks.now.columns c.args.marks.now.rows.items _ _ (c.requires.below c.loop-i.i) c.loop-i.invariant (rw c.as_slice.ensures.value at c.in_ok-push_row.ensures)
