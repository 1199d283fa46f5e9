use Rattle.std.proofs.Common.{◌≡◌, ◌<◌, ◌+◌, arith, take, ap, ◌∙◌, length}
use Rattle.std.proofs.lemmas.List.{take_all}
use Rattle.definitions.specs.Values.{market_of}
use Rattle.eating_laws.proofs.Limits.{agent_count}
use Rattle.eating.specs.Caps.{caps_before}
use Rattle.eating.proofs.Counts.{caps_more, caps_few, capped_few}
use Rattle.eating.proofs.plan.capped_total.Goals as goal

pub overflow_add-total : goal.overflow_add-total
overflow_add-total c =
    let problem = c.args.problem.now in
    let many = c.len-agent-end.ensures.value ∙ ap length c.agents.ensures.value in
    let inside : c.loop-agent.agent < length problem.agents = omega (arith, many, c.loop-agent-test.true) in
    let few = caps_few problem c.agents.ensures.lawful c.loop-agent.agent (omega arith) in
    let one = capped_few problem c.loop-agent.agent c.agents.ensures.lawful inside in
    omega (arith, few, one, c.loop-agent.invariant, c.capped_cells.ensures)

pub loop-agent-preserved : goal.loop-agent-preserved
loop-agent-preserved c =
    let problem = c.args.problem.now in
    let many = c.len-agent-end.ensures.value ∙ ap length c.agents.ensures.value in
    let inside : c.loop-agent.agent < length problem.agents = omega (arith, many, c.loop-agent-test.true) in
    let more = caps_more problem c.loop-agent.agent c.agents.ensures.lawful inside in
    let sum : c.loop-agent.total + c.capped_cells.result ≡ caps_before (take (c.loop-agent.agent + 1) (market_of problem).agents) = omega (arith, more, c.loop-agent.invariant, c.capped_cells.ensures) in
    sum

pub returns-clause-few : goal.returns-clause-few
returns-clause-few c =
    let problem = c.args.problem.now in
    let many = c.len-agent-end.ensures.value ∙ ap length c.agents.ensures.value in
    let few = caps_few problem c.agents.ensures.lawful c.loop-agent.agent (omega (arith, many, c.loop-agent.auto.agent-end)) in
    omega (arith, few, c.loop-agent.invariant)

pub returns-clause-value : goal.returns-clause-value
returns-clause-value c =
    let problem = c.args.problem.now in
    let many = c.len-agent-end.ensures.value ∙ ap length c.agents.ensures.value in
    c.loop-agent.invariant ∙ ap caps_before (take_all c.loop-agent.agent (market_of problem).agents (omega (arith, many, agent_count problem c.agents.ensures.lawful, c.loop-agent-test.false)))
