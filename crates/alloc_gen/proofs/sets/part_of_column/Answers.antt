use Rattle.alloc_gen.proofs.Columns.{part_is_lawful}
use Rattle.alloc_gen.proofs.sets.part_of_column.Goals as goal

pub new-requires : goal.new-requires
new-requires c = rw c.in_ok-cells.ensures (part_is_lawful c.args.count c.args.step c.args.ceiling c.args.column c.requires.step c.requires.ceiling)
