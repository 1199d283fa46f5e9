use Rattle.std.proofs.Common.{rules, arith}
use Rattle.bounded_flow.proofs.Making.{more_held}
use Rattle.bounded_flow.proofs.building.sets_of.Goals as goal

pub loop-number-preserved : goal.loop-number-preserved
loop-number-preserved c =
    rw c.in_ok-push.ensures.items (more_held c.args.family.now c.loop-number.sets.items (record { side = c.side.result; cells = c.in_ok-cells.cells }) c.unwrap-set.result.now c.loop-number.number (omega arith) c.loop-number.invariant (search rules) (search rules))
