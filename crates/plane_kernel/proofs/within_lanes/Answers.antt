use lib.Lanes.{chunk}
use Rattle.plane_kernel.proofs.Words.{fold_within}
use Rattle.plane_kernel.proofs.within_lanes.Goals as goal

pub returns : goal.returns
returns c = fold_within 0 (chunk c.args.at 8 c.args.a.now) (chunk c.args.at 8 c.args.b.now)
