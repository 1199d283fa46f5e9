use Rattle.std.proofs.Common.{◌≡◌, ◌++◌}
use Rattle.alloc_tables.specs.Table.{unit_fields, units_in}
use Rattle.alloc_tables.proofs.table.push_units.Given as goal

-- the units so far
abbrev pub invariant-loop-column : goal.invariant-loop-column
invariant-loop-column l = l.row ≡ l.initial.row ++ unit_fields (units_in l.shares) l.agent l.column
