use Rattle.std.proofs.Common.{◌+◌, arith}
use Rattle.alloc_tables.specs.Table.{eaten_row}
use Rattle.alloc_tables.proofs.RowsLemmas.{rows-more}
use Rattle.alloc_tables.proofs.table.put_agents.Goals as goal

pub loop-agent-preserved : goal.loop-agent-preserved
loop-agent-preserved c =
    let x = c.args.shares.now in
    rows-more (eaten_row c.args.agents.now x) 0 c.loop-agent.agent (c.loop-agent.agent + 1) c.loop-agent.agent c.args.into.now.items c.loop-agent.into.items c.put_agent.new.into.items (omega arith) (omega arith) c.loop-agent.invariant c.in_ok-put_agent.ensures
