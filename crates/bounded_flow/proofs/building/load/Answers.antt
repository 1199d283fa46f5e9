use Rattle.std.proofs.Common.{◌≡◌, ◌+◌, ◌*◌, ◌^◌, ◌<◌, ◌∙◌, length, ap, arith, length-set}
use Rattle.std.specs.Prelude.{sum}
use Rattle.definitions.specs.Trees.{chain_of, deepest_at}
use Rattle.bounded_flow.specs.Loads.{raised}
use Rattle.bounded_flow.proofs.Adding.{edges_many}
use Rattle.bounded_flow.proofs.Climbing.{climbed_many, edge_at}
use Rattle.bounded_flow.proofs.Loading.{part_none, part_next, part_all, room_at_one, room_at_two, unit_here, cell_here}
use Rattle.bounded_flow.proofs.building.load.Goals as goal

pub loop-place-init : goal.loop-place-init
loop-place-init c = part_none c.args.family.now c.args.trees.now c.args.x.now.units c.args.edges.now c.requires.empty

pub bounds-edges-place : goal.bounds-edges-place
bounds-edges-place c =
    let f = c.args.family.now in
    let t = c.args.trees.now in
    let inside : c.loop-place.place < f.agents * f.columns = rw (← c.agents.ensures.value, ← c.requires.columns, ← c.columns-columns.ensures.value) c.loop-place-test.true in
    let many = edges_many f c.agents.ensures.lawful t c.requires.trees c.loop-place.edges c.loop-place.invariant.wires in
    omega (arith, inside, many)

pub bounds-edges-place-in-loop-place : goal.bounds-edges-place-in-loop-place
bounds-edges-place-in-loop-place c =
    let f = c.args.family.now in
    let t = c.args.trees.now in
    let inside : c.loop-place.place < f.agents * f.columns = rw (← c.agents.ensures.value, ← c.requires.columns, ← c.columns-columns.ensures.value) c.loop-place-test.true in
    let many = edges_many f c.agents.ensures.lawful t c.requires.trees c.loop-place.edges c.loop-place.invariant.wires in
    omega (arith, inside, many)

pub climb-requires-clause-many : goal.climb-requires-clause-many
climb-requires-clause-many c =
    let f = c.args.family.now in
    let t = c.args.trees.now in
    let many = edges_many f c.agents.ensures.lawful t c.requires.trees c.loop-place.edges c.loop-place.invariant.wires in
    let e = edge_at c.loop-place.edges c.loop-place.place in
    length-set c.loop-place.edges c.loop-place.place (record e { under = e.under + c.at-units.result }) ∙ many

pub climb-requires-clause-room : goal.climb-requires-clause-room
climb-requires-clause-room c =
    let f = c.args.family.now in
    let t = c.args.trees.now in
    let x = c.args.x.now in
    let inside : c.loop-place.place < f.agents * f.columns = rw (← c.agents.ensures.value, ← c.requires.columns, ← c.columns-columns.ensures.value) c.loop-place-test.true in
    let shape : length x.units ≡ f.agents * f.columns = rw (← c.requires.agents, ← c.requires.columns) c.columns-columns.ensures.lawful.shape in
    let here = unit_here f x c.columns-columns.result c.loop-place.place c.at-units.result c.cell_at-cell.result inside c.columns-columns.ensures.value c.requires.columns c.cell_at-cell.ensures c.at-units.ensures.value in
    let scaled = c.columns-columns.ensures.lawful in
    let few : 4 * sum x.units < 2 ^ 128 = (let limit = scaled.limit in let total = scaled.total in omega arith) in
    room_at_one f c.agents.ensures.lawful t c.requires.trees x.units shape c.loop-place.place c.loop-place.edges c.loop-place.invariant inside c.at-units.result here few

pub climb-requires-in-loop-place-clause-many : goal.climb-requires-in-loop-place-clause-many
climb-requires-in-loop-place-clause-many c =
    let f = c.args.family.now in
    let t = c.args.trees.now in
    let many = edges_many f c.agents.ensures.lawful t c.requires.trees c.loop-place.edges c.loop-place.invariant.wires in
    let e = edge_at c.loop-place.edges c.loop-place.place in
    ap length c.climb.ensures ∙ climbed_many (f.agents * f.columns) c.at-units.result (chain_of t c.deepest.result) (raised c.at-units.result c.loop-place.place c.loop-place.edges)
    ∙ length-set c.loop-place.edges c.loop-place.place (record e { under = e.under + c.at-units.result }) ∙ many

pub climb-requires-in-loop-place-clause-room : goal.climb-requires-in-loop-place-clause-room
climb-requires-in-loop-place-clause-room c =
    let f = c.args.family.now in
    let t = c.args.trees.now in
    let x = c.args.x.now in
    let inside : c.loop-place.place < f.agents * f.columns = rw (← c.agents.ensures.value, ← c.requires.columns, ← c.columns-columns.ensures.value) c.loop-place-test.true in
    let shape : length x.units ≡ f.agents * f.columns = rw (← c.requires.agents, ← c.requires.columns) c.columns-columns.ensures.lawful.shape in
    let here = unit_here f x c.columns-columns.result c.loop-place.place c.at-units.result c.cell_at-cell.result inside c.columns-columns.ensures.value c.requires.columns c.cell_at-cell.ensures c.at-units.ensures.value in
    let scaled = c.columns-columns.ensures.lawful in
    let few : 4 * sum x.units < 2 ^ 128 = (let limit = scaled.limit in let total = scaled.total in omega arith) in
    let cell = cell_here f x c.columns-columns.result c.loop-place.place c.cell_at-cell.result c.columns-columns.ensures.value c.requires.columns c.cell_at-cell.ensures in
    room_at_two f c.agents.ensures.lawful t c.requires.trees x.units shape c.loop-place.place c.loop-place.edges c.loop-place.invariant inside c.at-units.result here c.deepest.result c.climb.new.edges few
    (c.deepest.ensures.value ∙ ap (deepest_at t 1) cell) c.climb.ensures

pub loop-place-preserved : goal.loop-place-preserved
loop-place-preserved c =
    let f = c.args.family.now in
    let t = c.args.trees.now in
    let x = c.args.x.now in
    let inside : c.loop-place.place < f.agents * f.columns = rw (← c.agents.ensures.value, ← c.requires.columns, ← c.columns-columns.ensures.value) c.loop-place-test.true in
    let shape : length x.units ≡ f.agents * f.columns = rw (← c.requires.agents, ← c.requires.columns) c.columns-columns.ensures.lawful.shape in
    let here = unit_here f x c.columns-columns.result c.loop-place.place c.at-units.result c.cell_at-cell.result inside c.columns-columns.ensures.value c.requires.columns c.cell_at-cell.ensures c.at-units.ensures.value in
    let cell = cell_here f x c.columns-columns.result c.loop-place.place c.cell_at-cell.result c.columns-columns.ensures.value c.requires.columns c.cell_at-cell.ensures in
    part_next f c.agents.ensures.lawful t c.requires.trees x.units shape c.loop-place.place c.loop-place.edges c.loop-place.invariant inside c.at-units.result here c.deepest.result c.deepest-in-loop-place.result c.climb.new.edges c.climb-in-loop-place.new.edges
    (c.deepest.ensures.value ∙ ap (deepest_at t 1) cell) (c.deepest-in-loop-place.ensures.value ∙ ap (deepest_at t 2) cell) c.climb.ensures c.climb-in-loop-place.ensures

pub returns : goal.returns
returns c =
    let f = c.args.family.now in
    let t = c.args.trees.now in
    let x = c.args.x.now in
    let shape : length x.units ≡ f.agents * f.columns = rw (← c.requires.agents, ← c.requires.columns) c.columns-columns.ensures.lawful.shape in
    part_all f c.agents.ensures.lawful t c.requires.trees x.units shape c.loop-place.place c.loop-place.edges c.loop-place.invariant
    (rw (← c.agents.ensures.value, ← c.requires.columns, ← c.columns-columns.ensures.value) c.loop-place-test.false)
