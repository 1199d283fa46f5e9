use Rattle.std.proofs.Common.{arith}
use Rattle.bihierarchy.proofs.Numbers.{none_cross}
use Rattle.bihierarchy.proofs.crossing.least_pair.Goals as goal

pub returns : goal.returns
returns c = none_cross c.args.family.now c.len-first-end.ensures.lawful (λ s t known knows before cross. c.loop-first.invariant s t known knows before (omega (arith, known.1)) cross)
