use Rattle.std.proofs.Common.{◌≡◌, ◌+◌, ◌<◌, Some, arith, length, ap, sym, ◌∙◌, subst}
use Rattle.std.specs.Prelude.{slice_get}
use Rattle.std.proofs.lemmas.List.{length_push}
use Rattle.std.proofs.lemmas.Option.{same_Some}
use Rattle.definitions.specs.Values.{Agent, demand_at, list_at, market_of, limits_of}
use Rattle.definitions.proofs.Problems.{agent_of}
use Rattle.eating.specs.Plan.{IsLine, IsLineOf}
use Rattle.eating.proofs.Counts.{caps_more, caps_room, limits_few}
use Rattle.eating.proofs.Limits.{limits_many}
use Rattle.eating.proofs.Lines.{each_push, lines_right}
use Rattle.eating.proofs.plan.lines_of.Goals as goal

pub line_of-requires-clause-room : goal.line_of-requires-clause-room
line_of-requires-clause-room c =
    let p = c.args.problem.now in
    let inside : c.loop-agent.agent < length p.agents = omega (arith, c.loop-agent-test.true, c.len-agent-end.ensures.value, ap length c.agents.ensures.value) in
    omega (arith, caps_room p c.loop-agent.agent c.agents.ensures.lawful inside, limits_many p c.agents.ensures.lawful, c.loop-agent.invariant.limits)

pub overflow_add-limits : goal.overflow_add-limits
overflow_add-limits c =
    let p = c.args.problem.now in
    let inside : c.loop-agent.agent < length p.agents = omega (arith, c.loop-agent-test.true, c.len-agent-end.ensures.value, ap length c.agents.ensures.value) in
    omega (arith, caps_room p c.loop-agent.agent c.agents.ensures.lawful inside, limits_many p c.agents.ensures.lawful, c.loop-agent.invariant.limits, limits_few p c.agents.ensures.lawful, c.capped_cells.ensures)

pub loop-agent-preserved : goal.loop-agent-preserved
loop-agent-preserved c =
    let p = c.args.problem.now in
    let n = c.loop-agent.agent in
    let inside : n < length p.agents = omega (arith, c.loop-agent-test.true, c.len-agent-end.ensures.value, ap length c.agents.ensures.value) in
    let more = caps_more p n c.agents.ensures.lawful inside in
    let items = c.in_ok-push.ensures.items in
    let inv = c.loop-agent.invariant in
    record {
      limits = omega (arith, more, inv.limits, c.capped_cells.ensures);
      many = ap length items ∙ length_push c.loop-agent.lines.items c.in_ok-line_of.field-0 ∙ ap (λ k. k + 1) inv.many;
      each = λ i w line at is.
          each_push (λ i line. (w : Agent) → slice_get (market_of p).agents i ≡ Some w → IsLineOf (market_of p) i w line) c.loop-agent.lines.items c.in_ok-line_of.field-0
          (λ i line is w at. inv.each i w line at is)
          (subst (λ k. (w : Agent) → slice_get (market_of p).agents k ≡ Some w → IsLineOf (market_of p) k w c.in_ok-line_of.field-0) (sym inv.many)
          (λ w at. subst (λ v. IsLineOf (market_of p) n v c.in_ok-line_of.field-0) (same_Some (record { demand = demand_at p n; list = list_at p n }) w (sym (agent_of p n c.agents.ensures.lawful inside) ∙ at)) c.in_ok-line_of.ensures.line))
          i line (subst (λ xs. slice_get xs i ≡ Some line) items is) w at;
      lines = λ i line is.
          each_push (λ i line. IsLine (length (limits_of p)) line) c.loop-agent.lines.items c.in_ok-line_of.field-0 inv.lines c.in_ok-line_of.ensures.limits i line (subst (λ xs. slice_get xs i ≡ Some line) items is);
    }

pub returns : goal.returns
returns c =
    let p = c.args.problem.now in
    let many : length c.loop-agent.lines.items ≡ length p.agents = omega (arith, c.loop-agent.invariant.many, c.loop-agent-test.false, c.loop-agent.auto.agent-end, c.len-agent-end.ensures.value, ap length c.agents.ensures.value) in
    lines_right p c.loop-agent.lines.items c.agents.ensures.lawful many c.loop-agent.invariant.each c.loop-agent.invariant.lines
