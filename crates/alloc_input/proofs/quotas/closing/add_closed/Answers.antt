use Rattle.alloc_input.proofs.RisingCells.{closed-within}
use Rattle.alloc_input.proofs.quotas.closing.add_closed.Goals as goal

pub insert-requires : goal.insert-requires
insert-requires c = closed-within c.args.family.now.agents c.args.objects c.args.family.now.columns c.args.set.now c.in_ok-closed.closed c.in_ok-closed.ensures c.requires.opened c.requires.wide
