use Rattle.cert_check.specs.PieceFaults.{pieces_value}
use Rattle.cert_check.specs.GiveOrder.{AreUnlike}
use Rattle.cert_check.proofs.distinct.mark.Given as goal

abbrev pub invariant-loop-i : goal.invariant-loop-i
invariant-loop-i l = AreUnlike (pieces_value l.pieces) l.unlike
