use Rattle.std.proofs.Common.{◌≡◌, ◌+◌, ◌<◌, ◌∙◌, ap, refl, length, arith}
use Rattle.definitions.specs.Sets.{SetValue, cells_in}
use Rattle.alloc_gen.proofs.Columns.{length-column_cells, part_is_inside}
use Rattle.alloc_gen.proofs.PartsInOrder.{part_added, room_left}
use Rattle.alloc_gen.proofs.sets.add_parts.Goals as goal

pub insert-requires : goal.insert-requires
insert-requires c =
    rw (c.in_ok-part.ensures, c.loop-column.invariant)
    (part_is_inside c.args.family.now.agents c.args.family.now.columns c.args.count c.args.step c.args.ceiling c.loop-column.column c.requires.agents (omega arith))

pub unreachable-requires : goal.unreachable-requires
unreachable-requires c =
    let room = room_left c.args.count c.args.step c.args.ceiling c.args.family.now c.loop-column.family c.args.columns c.loop-column.column (omega arith) c.requires.sets c.requires.cells c.loop-column.invariant in
    let says = rw c.in-Err-TooManySets.field-0-is at c.in-Err-TooManySets.ensures.too_many_sets in
    let full : length c.loop-column.family.sets ≡ 2000 = says.0 refl in
    omega (arith, room.0)

pub unreachable-requires-in-Err-TooManyCells : goal.unreachable-requires-in-Err-TooManyCells
unreachable-requires-in-Err-TooManyCells c =
    let room = room_left c.args.count c.args.step c.args.ceiling c.args.family.now c.loop-column.family c.args.columns c.loop-column.column (omega arith) c.requires.sets c.requires.cells c.loop-column.invariant in
    let says = rw c.in-Err-TooManyCells.field-0-is at c.in-Err-TooManyCells.ensures.too_many_cells in
    let full : 1201000 < cells_in c.loop-column.family.sets + length c.in_ok-part.part.cells = (says.0 refl).1 in
    let size : length c.in_ok-part.part.cells ≡ c.args.count = ap (λ (s : SetValue). length s.cells) c.in_ok-part.ensures ∙ length-column_cells c.args.count c.args.step c.loop-column.column in
    omega (arith, room.1)

pub loop-column-preserved : goal.loop-column-preserved
loop-column-preserved c =
    c.in-Ok.ensures.added ∙ part_added c.args.count c.args.step c.args.ceiling c.args.family.now c.loop-column.family c.loop-column.column c.in_ok-part.part c.loop-column.invariant c.in_ok-part.ensures
