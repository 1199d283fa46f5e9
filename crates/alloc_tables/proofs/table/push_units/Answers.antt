use Rattle.std.specs.Prelude.{decimal}
use Rattle.std.proofs.Common.{ap}
use Rattle.definitions.specs.Sets.{cell_of, units_of}
use Rattle.alloc_tables.proofs.TableLemmas.{fields-more}
use Rattle.alloc_tables.proofs.table.push_units.Goals as goal

pub loop-column-preserved : goal.loop-column-preserved
loop-column-preserved c =
    fields-more (λ a. decimal (units_of c.args.shares.now (cell_of c.args.agent a))) c.loop-column.column (decimal c.at.result) c.args.row.now c.loop-column.row c.push_number.new.self
    (ap decimal c.at.ensures.value) c.loop-column.invariant c.in_ok-push_number.ensures.ok
