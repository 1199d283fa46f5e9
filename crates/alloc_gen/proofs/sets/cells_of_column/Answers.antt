use Rattle.std.proofs.Common.{◌*◌, ◌++◌, ◌∷◌, [], List, ap, sym, ◌∙◌, arith}
use Rattle.std.proofs.lemmas.List.FromFn.{map-range_with_len_more}
use Rattle.definitions.specs.declared.Cell.{Cell}
use Rattle.definitions.specs.Sets.{cell_of}
use Rattle.alloc_gen.proofs.sets.cells_of_column.Goals as goal

pub loop-place-preserved : goal.loop-place-preserved
loop-place-preserved c =
    c.in_ok-push.ensures.items
    ∙ ap (λ (cells : List Cell). cells ++ cell_of (c.args.step * c.loop-place.place) c.args.column ∷ []) c.loop-place.invariant
    ∙ sym (map-range_with_len_more (λ i. cell_of (c.args.step * i) c.args.column) 0 c.loop-place.place c.loop-place.place (omega arith))
