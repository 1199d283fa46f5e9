use Rattle.std.proofs.Common.{◌≡◌, ◌+◌, ◌<◌, ◌∙◌, ap, refl, length, get_or, arith}
use Rattle.definitions.specs.Sets.{SetValue, cells_in}
use Rattle.quota_sets.proofs.RowLemmas.{row_is_inside, row_added, room_left, length-row_cells}
use Rattle.quota_sets.proofs.rows.add_rows.Goals as goal

pub insert-requires : goal.insert-requires
insert-requires c =
    rw (c.in_ok-row.ensures, c.loop-agent.invariant.sets, c.requires.agents, c.requires.columns)
    (row_is_inside c.args.agents c.args.columns c.loop-agent.agent (get_or c.args.demands.now c.loop-agent.agent 0) c.loop-agent-test.true)

pub unreachable-requires : goal.unreachable-requires
unreachable-requires c =
    let many : length c.args.demands.now ≡ c.args.agents = c.requires.demands in
    let room = room_left c.args.family.now c.loop-agent.family c.args.columns c.args.demands.now c.loop-agent.agent (omega arith) (omega arith) (rw many c.requires.cells) c.loop-agent.invariant.sets in
    let says = rw c.in-Err-TooManySets.field-0-is at c.in-Err-TooManySets.ensures.too_many_sets in
    let full : length c.loop-agent.family.sets ≡ 2000 = says.0 refl in
    omega (arith, room.0)

pub unreachable-requires-in-Err-TooManyCells : goal.unreachable-requires-in-Err-TooManyCells
unreachable-requires-in-Err-TooManyCells c =
    let many : length c.args.demands.now ≡ c.args.agents = c.requires.demands in
    let room = room_left c.args.family.now c.loop-agent.family c.args.columns c.args.demands.now c.loop-agent.agent (omega arith) (omega arith) (rw many c.requires.cells) c.loop-agent.invariant.sets in
    let says = rw c.in-Err-TooManyCells.field-0-is at c.in-Err-TooManyCells.ensures.too_many_cells in
    let full : 1201000 < cells_in c.loop-agent.family.sets + length c.in_ok-row.row.cells = (says.0 refl).1 in
    let size : length c.in_ok-row.row.cells ≡ c.args.columns = ap (λ (s : SetValue). length s.cells) c.in_ok-row.ensures ∙ length-row_cells c.args.columns c.loop-agent.agent in
    omega (arith, room.1)

pub loop-agent-preserved : goal.loop-agent-preserved
loop-agent-preserved c = record {
  sets = c.in-Ok.ensures.added ∙ row_added c.args.family.now c.loop-agent.family c.args.columns c.args.demands.now c.loop-agent.agent c.in_ok-row.row (omega (arith, c.loop-agent-test.true, c.requires.demands)) c.loop-agent.invariant.sets c.in_ok-row.ensures;
  lawful = c.insert.ensures.lawful;
}
