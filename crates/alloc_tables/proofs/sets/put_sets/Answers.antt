use Rattle.std.proofs.Common.{arith, ◌+◌, ◌-◌}
use Rattle.alloc_tables.specs.Sets.{numbered_row}
use Rattle.alloc_tables.proofs.RowsLemmas.{rows-more}
use Rattle.alloc_tables.proofs.sets.put_sets.Goals as goal

pub loop-number-preserved : goal.loop-number-preserved
loop-number-preserved c =
    let number = c.loop-number.number in
    rows-more (numbered_row c.args.family.now c.args.trees.now) 1 (number - 1) (number + 1 - 1) number c.args.into.now.items c.loop-number.into.items c.put_set.new.into.items (omega arith) (omega arith) c.loop-number.invariant c.in_ok-put_set.ensures
