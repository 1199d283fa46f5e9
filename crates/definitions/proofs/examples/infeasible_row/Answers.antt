-- The row is set 1, so that set 2 isn't the first.
use Rattle.std.proofs.Common.{refl, arith, inr}
use Rattle.definitions.proofs.examples.infeasible_row.Goals as goal

pub returns : goal.returns
returns c = (
  record { known = omega arith; failing = _; found = refl; is_sum = refl; breaks = inr (omega arith); before = λ k s l found. absurd (omega (arith, l)) },
  λ wrong. absurd (omega (arith, (wrong.before 0 _ (omega arith) refl).1)),
)
