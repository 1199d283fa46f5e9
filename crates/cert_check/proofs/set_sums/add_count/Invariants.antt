use Rattle.std.proofs.Common.{◌≡◌, ℕ, ◌+◌, ◌<◌, length, take}
use Rattle.std.specs.Prelude.{slice_index}
use Rattle.cert_check.specs.HolderTables.{counted_at}
use Rattle.cert_check.proofs.set_sums.add_count.Given as goal

abbrev pub invariant-loop-i : goal.invariant-loop-i
invariant-loop-i l = (s : ℕ) → s < length l.fn.sums
    → slice_index l.sums s ≡ slice_index l.fn.sums s + counted_at l.count (take l.i l.indices) s
