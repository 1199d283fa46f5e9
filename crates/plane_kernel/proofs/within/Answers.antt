use Rattle.plane_kernel.proofs.Places.{within_bits}
use Rattle.plane_kernel.proofs.within.Goals as goal

pub returns : goal.returns
returns c = let both = within_bits c.args.a.now c.args.b.now c.type_inv.a c.requires in rw c.within_words.ensures (both.0, both.1)
