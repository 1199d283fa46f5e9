use Rattle.std.proofs.Common.{rules, ◌∙◌, ◌++◌, map, ap}
use Rattle.std.proofs.lemmas.List.{take_all}
use Rattle.bounded_flow.specs.Loads.{empty_edge}
use Rattle.bounded_flow.specs.Wires.{cell_wires}
use Rattle.bounded_flow.proofs.Making.{more_cells, cell_wires_many}
use Rattle.bounded_flow.proofs.building.push_cells.Goals as goal

pub loop-place-preserved : goal.loop-place-preserved
loop-place-preserved c =
    rw c.in_ok-push.ensures.items (more_cells c.args.family.now c.args.trees.now c.args.edges.now.items c.loop-place.edges.items c.empty_edge.result c.loop-place.place (rw (← c.agents.ensures.value, ← c.columns-columns.ensures.value) c.loop-place-test.true) c.loop-place.invariant (search rules))

pub returns : goal.returns
returns c =
    c.loop-place.invariant ∙ ap (λ ws. c.args.edges.now.items ++ map empty_edge ws)
    (take_all c.loop-place.place (cell_wires c.args.family.now c.args.trees.now)
    (rw (cell_wires_many c.args.family.now c.args.trees.now, ← c.agents.ensures.value, ← c.columns-columns.ensures.value) c.loop-place-test.false))
