use Rattle.std.proofs.Common.{sym, ◌∙◌, arith}
use Rattle.cert_check.proofs.GiveOrder.{before_short, before_ends}
use Rattle.cert_check.proofs.distinct.is_before.Goals as goal

pub returns-then-i-others : goal.returns-then-i-others
returns-then-i-others c = sym (before_short c.args.gives.now c.args.others.now c.loop-i.i (omega arith) (omega arith)) ∙ c.loop-i.invariant

pub returns : goal.returns
returns c = sym (before_ends c.args.gives.now c.args.others.now c.loop-i.i (omega arith)) ∙ c.loop-i.invariant
