use Rattle.std.proofs.Common.{◌≡◌, ◌+◌, ◌<◌, ◌∙◌, ◌∷◌, [], length, take, ap, arith}
use Rattle.definitions.specs.Sets.{FamilyValue, SetValue, cells_in}
use Rattle.guard_sets.proofs.Rooms.{copy_cells, copy_more, family_more}
use Rattle.guard_sets.proofs.family.copy_of.Goals as goal

pub add-requires-clause-cells : goal.add-requires-clause-cells
add-requires-clause-cells c =
    let within : c.loop-index.index < length c.args.family.now.sets = omega (arith, c.loop-index-test.true, c.len-index-end.ensures.value) in
    let found = rw c.unwrap.ensures at c.get.ensures.value in
    omega (
      arith,
      ap (λ (f : FamilyValue). cells_in f.sets) c.loop-index.invariant,
      ap (λ (s : SetValue). length s.cells) c.in_ok-set.ensures,
      copy_cells c.args.family.now c.loop-index.index c.unwrap.result.now c.get.ensures.lawful within found,
    )

pub loop-index-preserved : goal.loop-index-preserved
loop-index-preserved c =
    let within : c.loop-index.index < length c.args.family.now.sets = omega (arith, c.loop-index-test.true, c.len-index-end.ensures.value) in
    let found = rw c.unwrap.ensures at c.get.ensures.value in
    c.in_ok-add.ensures
    ∙ family_more c.args.family.now c.loop-index.copy (take c.loop-index.index c.args.family.now.sets) (c.in_ok-set.set ∷ []) (take (c.loop-index.index + 1) c.args.family.now.sets) c.loop-index.invariant
    (copy_more c.args.family.now c.loop-index.index c.unwrap.result.now c.get.ensures.lawful within found c.in_ok-set.set c.in_ok-set.ensures)
