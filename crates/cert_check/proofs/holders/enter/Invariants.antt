use Rattle.std.proofs.Common.{◌≡◌, ℕ, ◌<◌, ◌+◌, ◌==◌, cond, count_by, length, take}
use Rattle.definitions.specs.Sets.{cell_index}
use Rattle.cert_check.specs.HolderTables.{lists_of, times_in}
use Rattle.cert_check.proofs.holders.enter.Given as goal

abbrev pub invariant-loop-i : goal.invariant-loop-i
invariant-loop-i l = (place set : ℕ) → place < length l.fn.lists
    → times_in (lists_of l.lists) place set ≡ times_in (lists_of l.fn.lists) place set
    + cond (l.index == set) (count_by (λ c. cell_index 201 c == place) (take l.i l.cells)) 0
