use Rattle.std.proofs.Common.{◌≡◌, ◌<◌, ◌++◌, ◌∷◌, [], arith, length, map, take, get_or, ap, sym, ◌∙◌}
use Rattle.std.proofs.lemmas.List.{take_more, take_all, map-append}
use Rattle.definitions.specs.Values.{list_at}
use Rattle.eating.specs.Holders.{made_holders}
use Rattle.eating.proofs.Counts.{limits_few}
use Rattle.eating.proofs.Lines.{line_right, line_limits, made_more, made_none}
use Rattle.eating.proofs.plan.line_of.Goals as goal

pub loop-place-init : goal.loop-place-init
loop-place-init c = record {
  columns = c.new-columns.ensures.items;
  holders = ap (map (λ h. h.items)) c.new-holders.ensures.items ∙ made_none c.args.problem.now c.args.trees.now c.args.agent c.args.capped c.capped_cells-caps.result;
}

pub holders_of-requires-clause-room : goal.holders_of-requires-clause-room
holders_of-requires-clause-room c =
    let few = limits_few c.args.problem.now c.list-list.ensures.lawful in
    omega (arith, few, c.requires.room, c.capped_cells-caps.ensures)

pub loop-place-preserved : goal.loop-place-preserved
loop-place-preserved c =
    let list = list_at c.args.problem.now c.args.agent in
    let k = c.loop-place.place in
    let l : k < length list = omega (arith, c.loop-place-test.true, ap length c.list-list.ensures.value) in
    let column : get_or c.list-list.result.now k 0 ≡ get_or list k 0 = ap (λ xs. get_or xs k 0) c.list-list.ensures.value in
    record {
      columns = c.in_ok-push.ensures.items ∙ ap (λ xs. xs ++ get_or c.list-list.result.now k 0 ∷ []) c.loop-place.invariant.columns ∙ ap (λ a. take k list ++ a ∷ []) column ∙ sym (take_more list k 0 l);
      holders = ap (map (λ h. h.items)) c.in_ok-push-2.ensures.items ∙ map-append (λ h. h.items) c.loop-place.holders.items (c.in_ok-holders_of.field-0 ∷ [])
          ∙ ap (λ xs. xs ++ c.in_ok-holders_of.field-0.items ∷ []) c.loop-place.invariant.holders
          ∙ ap (λ x. made_holders c.args.problem.now c.args.trees.now c.args.agent c.args.capped c.capped_cells-caps.result k ++ x ∷ []) c.in_ok-holders_of.ensures
          ∙ sym (made_more c.args.problem.now c.args.trees.now c.args.agent c.args.capped c.capped_cells-caps.result k);
    }

pub returns-clause-line : goal.returns-clause-line
returns-clause-line c =
    let list = list_at c.args.problem.now c.args.agent in
    let all : c.loop-place.place ≡ length list = omega (arith, c.loop-place-test.false, c.loop-place.auto.place-end, ap length c.list-list.ensures.value) in
    line_right c.args.problem.now c.list-list.ensures.lawful c.args.trees.now c.requires.trees c.args.agent c.requires.agent c.args.capped c.capped_cells-caps.result c.requires.capped c.capped_cells-caps.ensures
    (record { demand = c.demand.result; columns = c.loop-place.columns.items; holders = map (λ h. h.items) c.loop-place.holders.items })
    c.demand.ensures.value (c.loop-place.invariant.columns ∙ take_all c.loop-place.place list (omega arith))
    (c.loop-place.invariant.holders ∙ ap (made_holders c.args.problem.now c.args.trees.now c.args.agent c.args.capped c.capped_cells-caps.result) all)

pub returns-clause-limits : goal.returns-clause-limits
returns-clause-limits c =
    let list = list_at c.args.problem.now c.args.agent in
    let all : c.loop-place.place ≡ length list = omega (arith, c.loop-place-test.false, c.loop-place.auto.place-end, ap length c.list-list.ensures.value) in
    line_limits c.args.problem.now c.list-list.ensures.lawful c.args.trees.now c.requires.trees c.args.agent c.requires.agent c.args.capped c.capped_cells-caps.result c.requires.capped c.capped_cells-caps.ensures
    (record { demand = c.demand.result; columns = c.loop-place.columns.items; holders = map (λ h. h.items) c.loop-place.holders.items })
    c.demand.ensures.value (c.loop-place.invariant.columns ∙ take_all c.loop-place.place list (omega arith))
    (c.loop-place.invariant.holders ∙ ap (made_holders c.args.problem.now c.args.trees.now c.args.agent c.args.capped c.capped_cells-caps.result) all)
