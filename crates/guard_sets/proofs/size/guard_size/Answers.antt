use Rattle.std.proofs.Common.{◌≡◌, ◌<◌, length, ap, arith}
use Rattle.definitions.specs.Values.{list_at}
use Rattle.definitions.proofs.Problems.{list_short}
use Rattle.guard_sets.specs.Guard.{triangle}
use Rattle.guard_sets.proofs.Sizes.{triangle_small, sets_more, cells_more}
use Rattle.guard_sets.proofs.size.guard_size.Goals as goal

pub overflow_mul-cells : goal.overflow_mul-cells
overflow_mul-cells c =
    let within : c.loop-agent.agent < length c.args.problem.now.agents = omega (arith, c.loop-agent-test.true, c.len-agent-end.ensures.value, ap length c.agents.ensures.value) in
    let short = list_short c.args.problem.now c.loop-agent.agent c.family-family.ensures.lawful within in
    let small = triangle_small (length c.list.result.now) (omega (arith, short.1, ap length c.list.ensures.value)) in
    omega (arith, small.0)

pub overflow_add-cells-in-loop-agent : goal.overflow_add-cells-in-loop-agent
overflow_add-cells-in-loop-agent c =
    let within : c.loop-agent.agent < length c.args.problem.now.agents = omega (arith, c.loop-agent-test.true, c.len-agent-end.ensures.value, ap length c.agents.ensures.value) in
    let short = list_short c.args.problem.now c.loop-agent.agent c.family-family.ensures.lawful within in
    let small = triangle_small (length c.list.result.now) (omega (arith, short.1, ap length c.list.ensures.value)) in
    omega (arith, small.1, within, c.family-family.ensures.lawful.agents_limit, c.loop-agent.invariant.few_cells)

pub loop-agent-preserved : goal.loop-agent-preserved
loop-agent-preserved c =
    let within : c.loop-agent.agent < length c.args.problem.now.agents = omega (arith, c.loop-agent-test.true, c.len-agent-end.ensures.value, ap length c.agents.ensures.value) in
    let short = list_short c.args.problem.now c.loop-agent.agent c.family-family.ensures.lawful within in
    let many : length c.list.result.now ≡ length (list_at c.args.problem.now c.loop-agent.agent) = ap length c.list.ensures.value in
    let small = triangle_small (length c.list.result.now) (omega (arith, short.1, many)) in
    let cells : triangle (length c.list.result.now) ≡ triangle (length (list_at c.args.problem.now c.loop-agent.agent)) = ap triangle many in
    record {
      sets = omega (arith, many, c.loop-agent.invariant.sets, sets_more c.args.problem.now c.loop-agent.agent);
      cells = omega (arith, cells, c.loop-agent.invariant.cells, cells_more c.args.problem.now c.loop-agent.agent);
      few_sets = omega (arith, many, short.1, c.loop-agent.invariant.few_sets);
      few_cells = omega (arith, small.1, c.loop-agent.invariant.few_cells);
    }
