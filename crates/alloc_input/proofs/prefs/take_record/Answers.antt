use Rattle.std.proofs.Common.{refl}
use Rattle.alloc_input.proofs.AfterRecords.{after-blank, after-header, after-agent, agent-check}
use Rattle.alloc_input.proofs.Stops.{checks_along, passed-is}
use Rattle.alloc_input.proofs.prefs.take_record.Goals as goal

pub returns-then-is_empty-clause-taken : goal.returns-then-is_empty-clause-taken
returns-then-is_empty-clause-taken c = λ earlier after. after-blank _ _ _ c.args.state.now c.if-is_empty.ensures after

pub returns-then-state-clause-taken : goal.returns-then-state-clause-taken
returns-then-state-clause-taken c = λ earlier after.
    checks_along _ _ _ _ _ (agent-check _ earlier _ c.args.state.now c.if-is_empty.ensures (passed-is _ _ _ c.in_ok-need.ensures.0 c.is_text.ensures) c.if-state.true after)
    (λ x h. after-agent _ earlier _ c.args.state.now (record { header = c.args.state.now.header; agents = c.take_agent.new.agents; lists = c.take_agent.new.lists }) c.if-is_empty.ensures c.if-state.true refl h.0 h.1 after)
    c.take_agent.ensures.taken

pub returns-clause-taken : goal.returns-clause-taken
returns-clause-taken c = λ earlier after.
    after-header _ earlier _ c.args.state.now c.if-is_empty.ensures (passed-is _ _ _ c.in_ok-need.ensures.0 c.is_text.ensures) c.if-state.false (passed-is _ _ _ c.in_ok-need-2.ensures.0 (rw c.field.ensures at c.is_word.ensures)) after
