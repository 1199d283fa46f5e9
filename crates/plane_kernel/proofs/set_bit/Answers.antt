use Rattle.std.proofs.Common.{arith}
use Rattle.plane_kernel.proofs.Places.{set_here, set_elsewhere}
use Rattle.plane_kernel.proofs.set_bit.Goals as goal

pub returns-clause-set : goal.returns-clause-set
returns-clause-set c = set_here c.args.a.now c.args.bit (omega (arith, c.requires))

pub returns-clause-kept : goal.returns-clause-kept
returns-clause-kept c k other = set_elsewhere c.args.a.now c.args.bit k (omega (arith, c.requires)) other
