use Rattle.std.proofs.Common.{◌≡◌, ℕ, ◌+◌, ◌<◌, length, take}
use Rattle.std.specs.Prelude.{slice_index}
use Rattle.cert_check.specs.HolderTables.{held_sum, lists_of}
use Rattle.cert_check.proofs.set_sums.add_gives.Given as goal

abbrev pub invariant-loop-i : goal.invariant-loop-i
invariant-loop-i l = (s : ℕ) → s < length l.fn.sums
    → slice_index l.sums s ≡ slice_index l.fn.sums s + held_sum (lists_of l.lists) (take l.i l.gives) s
