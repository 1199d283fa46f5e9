use Rattle.std.proofs.Common.{◌≡◌, filter}
use Rattle.std.specs.Prelude.{nat_eq}
use Rattle.std.specs.Set.{is_member}
use Rattle.definitions.specs.Sets.{row_cells}
use Rattle.guard_sets.proofs.front.front_cells.Given as goal

abbrev pub invariant-loop-object : goal.invariant-loop-object
invariant-loop-object l = l.cells.items ≡ filter (λ c. is_member nat_eq l.front c.object) (row_cells l.object l.agent)
