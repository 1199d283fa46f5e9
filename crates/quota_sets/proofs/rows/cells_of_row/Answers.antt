use Rattle.std.proofs.Common.{◌∙◌, ◌++◌, ◌∷◌, [], sym, ap, arith}
use Rattle.std.proofs.lemmas.List.FromFn.{map-range_with_len_more}
use Rattle.definitions.specs.Sets.{cell_of}
use Rattle.quota_sets.proofs.rows.cells_of_row.Goals as goal

pub loop-object-preserved : goal.loop-object-preserved
loop-object-preserved c =
    c.in_ok-push.ensures.items
    ∙ ap (λ cells. cells ++ cell_of c.args.agent c.loop-object.object ∷ []) c.loop-object.invariant
    ∙ sym (map-range_with_len_more (cell_of c.args.agent) 0 c.loop-object.object c.loop-object.object (omega arith))
