use Rattle.std.proofs.Common.{◌≡◌, ◌++◌}
use Rattle.table_text.specs.Rows.{rows_text}
use Rattle.alloc_tables.specs.Table.{eaten_rows}
use Rattle.alloc_tables.proofs.table.put_agents.Given as goal

-- the records of the agents so far
abbrev pub invariant-loop-agent : goal.invariant-loop-agent
invariant-loop-agent l = l.into.items ≡ l.initial.into.items ++ rows_text (eaten_rows l.agents l.shares l.agent)
