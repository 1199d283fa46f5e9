use Rattle.alloc_tables.proofs.SidesLemmas.{ring_text-made}
use Rattle.alloc_tables.proofs.sides.ring_text.Goals as goal

pub returns : goal.returns
returns c = ring_text-made c.args.ring.now _ _ _ _ c.new-text.ensures.items c.in_ok-put_number.ensures.ok c.in_ok-put_ring.ensures c.in_ok-put_end.ensures.ok
