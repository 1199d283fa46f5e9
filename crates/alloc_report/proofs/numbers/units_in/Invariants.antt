use Rattle.std.proofs.Common.{◌≡◌}
use Rattle.definitions.specs.Sets.{set_sum, units_of}
use Rattle.alloc_report.specs.Summary.{column_cells}
use Rattle.alloc_report.proofs.numbers.units_in.Given as goal

-- the units of the agents so far
abbrev pub invariant-loop-agent : goal.invariant-loop-agent
invariant-loop-agent l = l.sum ≡ set_sum (units_of l.lottery.shares) (column_cells l.agent l.column)
