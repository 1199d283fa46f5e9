use Rattle.std.proofs.Common.{◌≡◌, ◌+◌, ◌<◌, ◌∙◌, ◌∷◌, ◌++◌, [], length, map, ap, arith}
use Rattle.std.specs.List.{range_with_len}
use Rattle.definitions.specs.Sets.{FamilyValue, SetValue, cells_in}
use Rattle.definitions.specs.Values.{list_at}
use Rattle.definitions.specs.Fairness.{prefix_set}
use Rattle.guard_sets.proofs.Rooms.{front_in, front_sets, front_cells, front_more, family_more}
use Rattle.guard_sets.proofs.family.add_fronts.Goals as goal

pub add-requires-clause-inside : goal.add-requires-clause-inside
add-requires-clause-inside c =
    let within : c.loop-place.place < length (list_at c.args.problem.now c.args.agent) = omega (arith, c.loop-place-test.true, ap length c.list-place-end.ensures.value) in
    front_in c.args.problem.now c.args.x.now c.args.agent (c.loop-place.place + 1) c.loop-place.family c.in_ok-set.set c.list-place-end.ensures.lawful c.requires.agent (omega (arith, within))
    (ap (λ (f : FamilyValue). f.agents) c.loop-place.invariant ∙ c.requires.agents) (ap (λ (f : FamilyValue). f.columns) c.loop-place.invariant ∙ c.requires.columns) c.in_ok-set.ensures

pub add-requires-clause-sets : goal.add-requires-clause-sets
add-requires-clause-sets c =
    let within : c.loop-place.place < length (list_at c.args.problem.now c.args.agent) = omega (arith, c.loop-place-test.true, ap length c.list-place-end.ensures.value) in
    omega (
      arith,
      ap (λ (f : FamilyValue). length f.sets) c.loop-place.invariant,
      front_sets c.args.problem.now c.args.x.now c.args.agent c.loop-place.place c.args.family.now.sets c.list-place-end.ensures.lawful c.requires.agent within c.requires.sets,
    )

pub add-requires-clause-cells : goal.add-requires-clause-cells
add-requires-clause-cells c =
    let within : c.loop-place.place < length (list_at c.args.problem.now c.args.agent) = omega (arith, c.loop-place-test.true, ap length c.list-place-end.ensures.value) in
    omega (
      arith,
      ap (λ (f : FamilyValue). cells_in f.sets) c.loop-place.invariant,
      ap (λ (s : SetValue). length s.cells) c.in_ok-set.ensures,
      front_cells c.args.problem.now c.args.x.now c.args.agent c.loop-place.place c.args.family.now.sets c.list-place-end.ensures.lawful c.requires.agent within c.requires.cells,
    )

pub loop-place-preserved : goal.loop-place-preserved
loop-place-preserved c =
    c.in_ok-add.ensures
    ∙ family_more c.args.family.now c.loop-place.family (c.args.family.now.sets ++ map (prefix_set c.args.problem.now c.args.x.now c.args.agent) (range_with_len 1 c.loop-place.place)) (c.in_ok-set.set ∷ [])
    (c.args.family.now.sets ++ map (prefix_set c.args.problem.now c.args.x.now c.args.agent) (range_with_len 1 (c.loop-place.place + 1))) c.loop-place.invariant
    (front_more c.args.problem.now c.args.x.now c.args.agent c.loop-place.place c.args.family.now.sets c.in_ok-set.set c.in_ok-set.ensures)
