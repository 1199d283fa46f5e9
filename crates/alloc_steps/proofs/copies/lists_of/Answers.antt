use Rattle.std.proofs.Common.{◌∙◌, ap, arith, length}
use Rattle.alloc_steps.proofs.CopiesLemmas.{lists_more}
use Rattle.alloc_steps.proofs.copies.lists_of.Goals as goal

pub loop-agent-preserved : goal.loop-agent-preserved
loop-agent-preserved c =
    lists_more c.args.problem.now.lists c.loop-agent.agent c.loop-agent.lists.items c.push.new.self.items c.in_ok-to_vec.field-0 c.loop-agent.invariant c.in_ok-push.ensures.items
    (c.in_ok-to_vec.ensures.items_if_clones_equal (λ x y e. e) ∙ c.list.ensures.value) (omega (arith, c.agents.ensures.lawful.lists_many, c.len-agent-end.ensures.value, ap length c.agents.ensures.value))
