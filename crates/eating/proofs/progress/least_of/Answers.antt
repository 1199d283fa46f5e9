use Rattle.std.proofs.Common.{arith}
use Rattle.eating_laws.proofs.Holders.{least_le}
use Rattle.eating.proofs.Leasts.{least_more, least_all}
use Rattle.eating.proofs.progress.least_of.Goals as goal

pub loop-limit-init : goal.loop-limit-init
loop-limit-init c = record {
  low = omega arith;
  rest = (let le = least_le c.args.unit c.args.moments.now c.args.holders.now in omega (arith, le));
}

pub loop-limit-preserved : goal.loop-limit-preserved
loop-limit-preserved c =
    let more = least_more c.args.unit c.args.moments.now c.args.holders.now c.loop-limit.limit-index (omega arith) in
    record {
      low = grind (arith, c.min-least.ensures, c.loop-limit.invariant.low);
      rest = grind (arith, c.min-least.ensures, more, c.loop-limit.invariant.rest);
    }

pub returns : goal.returns
returns c =
    let all = least_all c.args.unit c.args.moments.now c.args.holders.now c.loop-limit.limit-index (omega arith) in
    omega (arith, all, c.loop-limit.invariant.rest, c.loop-limit.invariant.low)
