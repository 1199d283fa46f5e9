use Rattle.alloc_tables.proofs.SidesLemmas.{split_text-made}
use Rattle.alloc_tables.proofs.sides.split_text.Goals as goal

pub returns : goal.returns
returns c = split_text-made c.args.sides.now _ _ _ c.new-text.ensures.items c.in_ok-put_sides.ensures c.in_ok-put_end.ensures.ok
