use Rattle.std.proofs.Common.{◌≡◌, ℕ, ◌<◌, get_or}
use Rattle.definitions.specs.declared.Cell.{Cell}
use Rattle.fairness_core.proofs.likeness.are_same_columns.Given as goal

abbrev pub invariant-loop-place : goal.invariant-loop-place
invariant-loop-place l = (k : ℕ) (d : Cell) → k < l.place → (get_or l.cells k d).object ≡ (get_or l.others k d).object
