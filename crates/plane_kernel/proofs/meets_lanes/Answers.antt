use lib.Lanes.{chunk}
use Rattle.plane_kernel.proofs.Words.{fold_meets}
use Rattle.plane_kernel.proofs.meets_lanes.Goals as goal

pub returns : goal.returns
returns c = fold_meets 0 (chunk c.args.at 8 c.args.a.now) (chunk c.args.at 8 c.args.b.now)
