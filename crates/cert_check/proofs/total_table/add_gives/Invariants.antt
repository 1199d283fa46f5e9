use Rattle.std.proofs.Common.{◌≡◌, ℕ, ◌+◌, ◌<◌, length, take}
use Rattle.std.specs.Prelude.{slice_index}
use Rattle.cert_check.specs.TotalTables.{place_at, weighted_at}
use Rattle.cert_check.proofs.total_table.add_gives.Given as goal

abbrev pub invariant-loop-i : goal.invariant-loop-i
invariant-loop-i l = (i a : ℕ) → a < 201 → place_at i a < length l.fn.table
    → slice_index l.table (place_at i a) ≡ slice_index l.fn.table (place_at i a) + weighted_at l.weight (take l.i l.gives) (place_at i a)
