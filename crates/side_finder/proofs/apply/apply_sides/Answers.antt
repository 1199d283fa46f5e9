use Rattle.std.proofs.Common.{◌≡◌, ◌+◌, ◌-◌, ◌<◌, ◌∙◌, List, Some, length, refl, ap, arith, take_all}
use Rattle.std.specs.Prelude.{slice_get}
use Rattle.definitions.specs.Sets.{FamilyValue, SetValue, cells_in}
use Rattle.side_finder.specs.Applied.{with_sides}
use Rattle.side_finder.proofs.Applying.{next_copied, one_copied, room_left, sets_with_sides}
use Rattle.side_finder.proofs.apply.apply_sides.Goals as goal

pub unreachable-requires-in-Err-TooManyCells : goal.unreachable-requires-in-Err-TooManyCells
unreachable-requires-in-Err-TooManyCells c =
    let f = c.args.family.now in
    let sides = c.args.sides.now in
    let k = c.loop-number.number - 1 in
    let l : k < length f.sets = omega (arith, c.loop-number-test.true, c.len-number-end.ensures.value, c.loop-number.auto.number) in
    let found : slice_get f.sets k ≡ Some c.unwrap.result.now = rw c.unwrap.ensures at c.get.ensures.value in
    let is = next_copied f sides c.requires.0 c.agents.ensures.lawful k l c.unwrap.result.now c.in_ok-set.set found c.in_ok-set.ensures in
    let room = room_left f sides c.requires.0 c.agents.ensures.lawful k l in
    let says = rw c.in-Err-TooManyCells.field-0-is at c.in-Err-TooManyCells.ensures.too_many_cells in
    let full : 1201000 < cells_in c.loop-number.applied.sets + length c.in_ok-set.set.cells = (says.0 refl).1 in
    let so_far = ap (λ (g : FamilyValue). cells_in g.sets) c.loop-number.invariant in
    let size = ap (λ (s : SetValue). length s.cells) is in
    omega (arith, room, full, so_far, size)

pub loop-number-preserved : goal.loop-number-preserved
loop-number-preserved c =
    let f = c.args.family.now in
    let sides = c.args.sides.now in
    let k = c.loop-number.number - 1 in
    let l : k < length f.sets = omega (arith, c.loop-number-test.true, c.len-number-end.ensures.value, c.loop-number.auto.number) in
    let found : slice_get f.sets k ≡ Some c.unwrap.result.now = rw c.unwrap.ensures at c.get.ensures.value in
    let is = next_copied f sides c.requires.0 c.agents.ensures.lawful k l c.unwrap.result.now c.in_ok-set.set found c.in_ok-set.ensures in
    c.in-Ok.ensures.added
    ∙ one_copied f sides c.requires.0 c.agents.ensures.lawful k l c.loop-number.applied c.in_ok-set.set (c.loop-number.number + 1 - 1) (omega (arith, c.loop-number.auto.number)) c.loop-number.invariant is

pub returns : goal.returns
returns c =
    let f = c.args.family.now in
    let sides = c.args.sides.now in
    let whole : List SetValue = (with_sides f sides).sets in
    let many = sets_with_sides f sides c.requires.0 in
    c.loop-number.invariant
    ∙ ap (λ (xs : List SetValue). record (with_sides f sides) { sets = xs }) (take_all (c.loop-number.number - 1) whole (omega (arith, many, c.loop-number-test.false, c.len-number-end.ensures.value)))
