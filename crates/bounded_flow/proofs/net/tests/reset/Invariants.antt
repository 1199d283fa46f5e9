use Rattle.bounded_flow.proofs.Resets.{Reset}
use Rattle.bounded_flow.proofs.net.tests.reset.Given as goal

abbrev pub invariant-loop-index : goal.invariant-loop-index
invariant-loop-index l = Reset l.left l.fn.edges l.edges l.index
