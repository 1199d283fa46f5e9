use Rattle.alloc_input.proofs.CellFacts.{no_rows, no_cells}
use Rattle.alloc_input.proofs.quotas.marks.Marks.new.Goals as goal

pub returns-clause-marked : goal.returns-clause-marked
returns-clause-marked c = rw c.new.ensures.items (no_rows c.args.agents c.args.columns)

pub returns-clause-none : goal.returns-clause-none
returns-clause-none c = rw c.new.ensures.items (no_cells c.args.agents c.args.columns)
