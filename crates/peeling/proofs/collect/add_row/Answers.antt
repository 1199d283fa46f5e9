-- One more cell gives what it has.
use Rattle.std.proofs.Common.{◌<◌, arith}
use Rattle.peeling.proofs.Gives.{gives_more}
use Rattle.peeling.proofs.collect.add_row.Goals as goal

pub loop-object-preserved : goal.loop-object-preserved
loop-object-preserved c = λ m e.
    let within : c.loop-object.object < c.args.peeler.now.columns = omega arith in
    gives_more c.args.peeler.now.columns c.args.agent c.loop-object.object c.piece-count.result m c.loop-object.gives.items c.add_give.new.gives.items
    within (c.piece-count.ensures.value m e) (c.loop-object.invariant m e) c.in_ok-add_give.ensures
