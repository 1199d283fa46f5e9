use Rattle.std.proofs.Common.{◌≡◌, ◌∙◌, Vec, Global, ap, sym}
use Rattle.definitions.specs.declared.Cell.{Cell}
use Rattle.guard_sets.proofs.Fronts.{kept_more, kept_same}
use Rattle.guard_sets.proofs.front.front_cells.Goals as goal
use Rattle.guard_sets.proofs.front.front_cells.Goals.{then-is_among+in_ok-push, else-is_among}

pub loop-object-preserved : goal.loop-object-preserved
loop-object-preserved c = elim c.if-is_among.branch [
  | then-is_among+in_ok-push w ↦
      ap (λ (v : Vec Cell Global). v.items) w.cells-is ∙ w.in_ok-push.ensures.items
      ∙ kept_more c.args.front.now c.args.agent c.loop-object.object c.loop-object.cells.items (sym c.is_among.ensures ∙ w.if-is_among.true) c.loop-object.invariant
  | else-is_among w ↦
      ap (λ (v : Vec Cell Global). v.items) w.cells-is
      ∙ kept_same c.args.front.now c.args.agent c.loop-object.object c.loop-object.cells.items (sym c.is_among.ensures ∙ w.if-is_among.false) c.loop-object.invariant
]
