-- By computation. A wrong set differs in its floor, its ceiling, or the agent of its first cell.
use Rattle.std.proofs.Common.{refl, ap, arith}
use Rattle.std.specs.Prelude.{sum_by}
use Rattle.definitions.specs.Sets.{SetValue}
use Rattle.definitions.proofs.examples.set_of_first_places.Goals as goal

pub returns : goal.returns
returns c = (
  refl,
  λ wrong. absurd (omega (arith, ap (λ (s : SetValue). s.floor) wrong)),
  λ wrong. absurd (omega (arith, ap (λ (s : SetValue). s.ceiling) wrong)),
  λ wrong. absurd (omega (arith, ap (λ (s : SetValue). sum_by (λ c. c.agent) s.cells) wrong)),
)
