use Rattle.std.proofs.Common.{arith}
use Rattle.eating.proofs.Leasts.{from_le, from_more_in, from_more_out, from_all}
use Rattle.eating.proofs.serving.least_capped.Goals as goal
use Rattle.eating.proofs.serving.least_capped.Goals.{then-limit-stated, else-limit-stated}

pub loop-limit-init : goal.loop-limit-init
loop-limit-init c = record {
  low = omega arith;
  rest = (let le = from_le c.args.unit c.args.moments.now c.args.stated c.args.holders.now in omega (arith, le));
}

pub loop-limit-preserved : goal.loop-limit-preserved
loop-limit-preserved c = elim c.if-limit-stated.branch [
  | then-limit-stated w ↦
      let more = from_more_in c.args.unit c.args.moments.now c.args.stated c.args.holders.now c.loop-limit.limit-index (omega arith) (omega arith) in
      record {
        low = grind (arith, w.min-least.ensures, w.least-is, c.loop-limit.invariant.low);
        rest = grind (arith, w.min-least.ensures, w.least-is, more, c.loop-limit.invariant.rest);
      }
  | else-limit-stated w ↦
      let more = from_more_out c.args.unit c.args.moments.now c.args.stated c.args.holders.now c.loop-limit.limit-index (omega arith) (omega arith) in
      record {
        low = omega (arith, w.least-is, c.loop-limit.invariant.low);
        rest = omega (arith, w.least-is, more, c.loop-limit.invariant.rest);
      }
]

pub returns : goal.returns
returns c =
    let all = from_all c.args.unit c.args.moments.now c.args.stated c.args.holders.now c.loop-limit.limit-index (omega arith) in
    omega (arith, all, c.loop-limit.invariant.rest, c.loop-limit.invariant.low)
