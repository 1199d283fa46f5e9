use Rattle.plane_kernel.proofs.Places.{meet_overlaps}
use Rattle.plane_kernel.proofs.meets.Goals as goal

pub returns : goal.returns
returns c = let both = meet_overlaps c.args.a.now c.args.b.now c.type_inv.a in rw c.meets_words.ensures (both.0, both.1)
