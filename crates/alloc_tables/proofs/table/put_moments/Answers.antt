use Rattle.std.proofs.Common.{refl}
use Rattle.std.specs.Prelude.{codes}
use Rattle.alloc_tables.proofs.RowsLemmas.{values-more}
use Rattle.alloc_tables.proofs.table.put_moments.Goals as goal

pub loop-i-preserved : goal.loop-i-preserved
loop-i-preserved c =
    values-more (codes "moment") c.args.moments.now c.loop-i.i _ c.args.into.now.items c.loop-i.into.items c.put_two.new.into.items refl c.loop-i.invariant c.in_ok-put_two.ensures.ok
