use Rattle.std.proofs.Common.{◌≡◌, ℕ, ◌+◌, ◌<◌, true, slice_index}
use Rattle.cert_check.specs.PieceFaults.{pieces_value}
use Rattle.cert_check.specs.GiveOrder.{comes_before}
use Rattle.cert_check.proofs.distinct.rises.Given as goal

abbrev pub invariant-loop-next : goal.invariant-loop-next
invariant-loop-next l = (k : ℕ) → k + 1 < l.next → comes_before (pieces_value l.pieces) (slice_index l.order k) (slice_index l.order (k + 1)) ≡ true
