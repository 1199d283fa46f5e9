use Rattle.alloc_input.proofs.RisingCells.{closed-lawful}
use Rattle.alloc_input.proofs.quotas.closing.close_set.Goals as goal

pub new-requires : goal.new-requires
new-requires c = closed-lawful c.args.set.now c.in_ok-cells.cells.items c.requires.quotas c.in_ok-cells.ensures
