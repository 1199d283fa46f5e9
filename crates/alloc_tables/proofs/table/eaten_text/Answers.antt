use Rattle.std.proofs.Common.{◌∙◌, ap, length, sym}
use Rattle.alloc_tables.proofs.TableLemmas.{agents_eaten, eaten_text-made}
use Rattle.alloc_tables.proofs.table.eaten_text.Goals as goal
use Rattle.definitions.specs.Sets.{ScaledValue}

pub put_agents-requires : goal.put_agents-requires
put_agents-requires c =
    ap (λ (x : ScaledValue). x.agents) c.shares-shares.ensures.value ∙ agents_eaten c.args.problem.now c.args.eaten.now c.agents-agents.ensures.lawful c.requires
    ∙ sym (ap length c.agents-agents.ensures.value)

pub returns : goal.returns
returns c =
    eaten_text-made c.args.problem.now c.args.eaten.now c.objects.result.now c.agents-agents.result.now c.shares-shares.result.now c.moments.result.now c.denominator.result c.len.result _ _ _ _ _
    c.agents-agents.ensures.lawful c.requires c.objects.ensures.value c.agents-agents.ensures.value c.shares-shares.ensures.value c.moments.ensures.value c.denominator.ensures.value c.len.ensures.value
    c.new-text.ensures.items c.in_ok-put_head.ensures c.in_ok-put_moments.ensures c.in_ok-put_agents.ensures c.in_ok-put_end.ensures.ok
