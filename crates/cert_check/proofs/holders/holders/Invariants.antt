use Rattle.std.proofs.Common.{◌≡◌, ℕ, ◌<◌, ◌*◌, ◌==◌, cond, count_by, length}
use Rattle.std.specs.Prelude.{nat_lt}
use Rattle.definitions.specs.Sets.{cell_index}
use Rattle.cert_check.specs.HolderTables.{lists_of, times_in}
use Rattle.cert_check.specs.PieceFaults.{cells_in_set}
use Rattle.cert_check.proofs.holders.holders.Given as goal

abbrev pub invariant-loop-index : goal.invariant-loop-index
invariant-loop-index l = record {
  many : length l.lists.items ≡ l.family.agents * 201;
  times : (place s : ℕ) → place < l.family.agents * 201
      → times_in (lists_of l.lists.items) place s ≡ cond (nat_lt s l.index) (count_by (λ c. cell_index 201 c == place) (cells_in_set l.family s)) 0;
}
