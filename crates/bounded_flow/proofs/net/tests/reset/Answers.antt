use Rattle.std.proofs.Common.{◌<◌, length, arith}
use Rattle.bounded_flow.specs.declared.edge.Edge.{Edge}
use Rattle.bounded_flow.proofs.Resets.{reset_more}
use Rattle.bounded_flow.proofs.net.tests.reset.Goals as goal

pub loop-index-preserved : goal.loop-index-preserved
loop-index-preserved c =
    let d : Edge = record { tail = 0; head = 0; whole = 0; under = 0; over = 0 } in
    let out = c.empty.ensures in
    let inside : c.loop-index.index < length c.loop-index.edges = omega arith in
    reset_more c.args.left c.args.edges.now c.loop-index.edges c.loop-index.index d c.empty.new.edge c.loop-index.invariant inside out.sound out.rest out.wire out.whole
