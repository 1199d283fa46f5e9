use Rattle.std.proofs.Common.{◌≡◌, ◌∙◌, List, All, ap, sym, subst, arith}
use Rattle.definitions.specs.declared.Cell.{Cell}
use Rattle.definitions.specs.Sets.{IsCellWithin, IsQuotaSet, IsRising}
use Rattle.guard_sets.proofs.Fronts.{front_is, front_lawful, front_made, front_numbers, front_rises, front_units, front_within}
use Rattle.guard_sets.proofs.front.front_set.Goals as goal

pub units_in-units-requires-clause-rise : goal.units_in-units-requires-clause-rise
units_in-units-requires-clause-rise c =
    let cells = front_is c.args.problem.now c.args.x.now c.args.agent c.args.places c.list-list.result.now c.columns.result c.in_ok-cells.cells.items c.in_ok-cells.ensures c.list-list.ensures.value (c.columns.ensures.value ∙ c.requires.given.columns) in
    subst IsRising (sym (c.deref.ensures.value ∙ cells)) (front_rises c.args.problem.now c.args.x.now c.args.agent c.args.places c.list-list.ensures.lawful c.requires.agent c.requires.places)

pub units_in-units-requires-clause-inside : goal.units_in-units-requires-clause-inside
units_in-units-requires-clause-inside c =
    let cells = front_is c.args.problem.now c.args.x.now c.args.agent c.args.places c.list-list.result.now c.columns.result c.in_ok-cells.cells.items c.in_ok-cells.ensures c.list-list.ensures.value (c.columns.ensures.value ∙ c.requires.given.columns) in
    subst (λ (cs : List Cell). All (IsCellWithin c.args.x.now.agents c.args.x.now.columns) cs) (sym (c.deref.ensures.value ∙ cells))
    (front_within c.args.problem.now c.args.x.now c.args.agent c.args.places c.list-list.ensures.lawful c.requires.agent c.requires.places c.requires.given)

pub overflow_cast-floor : goal.overflow_cast-floor
overflow_cast-floor c =
    let cells = front_is c.args.problem.now c.args.x.now c.args.agent c.args.places c.list-list.result.now c.columns.result c.in_ok-cells.cells.items c.in_ok-cells.ensures c.list-list.ensures.value (c.columns.ensures.value ∙ c.requires.given.columns) in
    let units = front_units c.args.problem.now c.args.x.now c.args.agent c.args.places c.list-list.ensures.lawful c.requires.agent c.requires.places c.deref.result.now c.units_in-units.result (c.deref.ensures.value ∙ cells) c.units_in-units.ensures c.requires.given in
    let numbers = front_numbers c.args.problem.now c.args.x.now c.args.agent c.args.places c.list-list.ensures.lawful c.requires.agent c.requires.places c.units_in-units.result c.denominator-one.result units c.denominator-one.ensures.value c.requires.given c.denominator-one.ensures.lawful in
    omega (arith, numbers.0)

pub overflow_add-ceiling : goal.overflow_add-ceiling
overflow_add-ceiling c =
    let cells = front_is c.args.problem.now c.args.x.now c.args.agent c.args.places c.list-list.result.now c.columns.result c.in_ok-cells.cells.items c.in_ok-cells.ensures c.list-list.ensures.value (c.columns.ensures.value ∙ c.requires.given.columns) in
    let units = front_units c.args.problem.now c.args.x.now c.args.agent c.args.places c.list-list.ensures.lawful c.requires.agent c.requires.places c.deref.result.now c.units_in-units.result (c.deref.ensures.value ∙ cells) c.units_in-units.ensures c.requires.given in
    let numbers = front_numbers c.args.problem.now c.args.x.now c.args.agent c.args.places c.list-list.ensures.lawful c.requires.agent c.requires.places c.units_in-units.result c.denominator-one.result units c.denominator-one.ensures.value c.requires.given c.denominator-one.ensures.lawful in
    omega (arith, numbers.1)

pub overflow_cast-ceiling : goal.overflow_cast-ceiling
overflow_cast-ceiling c =
    let cells = front_is c.args.problem.now c.args.x.now c.args.agent c.args.places c.list-list.result.now c.columns.result c.in_ok-cells.cells.items c.in_ok-cells.ensures c.list-list.ensures.value (c.columns.ensures.value ∙ c.requires.given.columns) in
    let units = front_units c.args.problem.now c.args.x.now c.args.agent c.args.places c.list-list.ensures.lawful c.requires.agent c.requires.places c.deref.result.now c.units_in-units.result (c.deref.ensures.value ∙ cells) c.units_in-units.ensures c.requires.given in
    let numbers = front_numbers c.args.problem.now c.args.x.now c.args.agent c.args.places c.list-list.ensures.lawful c.requires.agent c.requires.places c.units_in-units.result c.denominator-one.result units c.denominator-one.ensures.value c.requires.given c.denominator-one.ensures.lawful in
    omega (arith, numbers.2)

pub new-requires : goal.new-requires
new-requires c =
    let cells = front_is c.args.problem.now c.args.x.now c.args.agent c.args.places c.list-list.result.now c.columns.result c.in_ok-cells.cells.items c.in_ok-cells.ensures c.list-list.ensures.value (c.columns.ensures.value ∙ c.requires.given.columns) in
    let units = front_units c.args.problem.now c.args.x.now c.args.agent c.args.places c.list-list.ensures.lawful c.requires.agent c.requires.places c.deref.result.now c.units_in-units.result (c.deref.ensures.value ∙ cells) c.units_in-units.ensures c.requires.given in
    subst IsQuotaSet
    (sym (front_made c.args.problem.now c.args.x.now c.args.agent c.args.places c.list-list.ensures.lawful c.requires.agent c.requires.places c.in_ok-cells.cells.items c.units_in-units.result c.denominator-one.result cells units c.denominator-one.ensures.value))
    (front_lawful c.args.problem.now c.args.x.now c.args.agent c.args.places c.list-list.ensures.lawful c.requires.agent c.requires.places c.requires.given)

pub returns : goal.returns
returns c =
    let cells = front_is c.args.problem.now c.args.x.now c.args.agent c.args.places c.list-list.result.now c.columns.result c.in_ok-cells.cells.items c.in_ok-cells.ensures c.list-list.ensures.value (c.columns.ensures.value ∙ c.requires.given.columns) in
    let units = front_units c.args.problem.now c.args.x.now c.args.agent c.args.places c.list-list.ensures.lawful c.requires.agent c.requires.places c.deref.result.now c.units_in-units.result (c.deref.ensures.value ∙ cells) c.units_in-units.ensures c.requires.given in
    c.new.ensures ∙ front_made c.args.problem.now c.args.x.now c.args.agent c.args.places c.list-list.ensures.lawful c.requires.agent c.requires.places c.in_ok-cells.cells.items c.units_in-units.result c.denominator-one.result cells units c.denominator-one.ensures.value
