use Rattle.std.proofs.Common.{false, refl, arith}
use Rattle.std.proofs.lemmas.Bool.{both_ways}
use Rattle.fairness_core.proofs.Columns.{same_columns, same_column}
use Rattle.fairness_core.proofs.likeness.are_same_columns.Goals as goal

pub returns-then-cells-place : goal.returns-then-cells-place
returns-then-cells-place c = (
  λ t. absurd (both_ways false refl t),
  λ e. absurd (c.if-cells-place.true (same_column c.args.cells.now c.args.others.now c.loop-place.place _ e (omega arith))),
)

pub returns : goal.returns
returns c = (
  λ t. same_columns c.args.cells.now c.args.others.now (omega arith) (λ k d l. c.loop-place.invariant k d (omega (arith, l))),
  λ e. refl,
)
