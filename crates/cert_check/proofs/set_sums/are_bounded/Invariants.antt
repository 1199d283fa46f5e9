use Rattle.std.proofs.Common.{◌≡◌, ℕ, ◌<◌, true}
use Rattle.std.specs.Prelude.{slice_index}
use Rattle.cert_check.specs.HolderTables.{bounds_at, is_bounded}
use Rattle.cert_check.proofs.set_sums.are_bounded.Given as goal

abbrev pub invariant-loop-i : goal.invariant-loop-i
invariant-loop-i l = (s : ℕ) → s < l.i → is_bounded (bounds_at l.bounds s) (slice_index l.sums s) ≡ true
