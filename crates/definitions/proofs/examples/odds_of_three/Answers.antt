-- By tests that compute: a has 7 of 6 in the first wrong odds, and z has 5 of 6 in the second.
use Rattle.std.proofs.Common.{refl, arith, []}
use Rattle.definitions.specs.Values.{capped_limits}
use Rattle.definitions.specs.Examples.{uneaten_place, uneaten_units}
use Rattle.definitions.proofs.Computed.{random_by_tests}
use Rattle.definitions.proofs.examples.odds_of_three.Goals as goal

pub returns : goal.returns
unfolding capped_limits
returns c = (
  random_by_tests uneaten_place uneaten_units refl refl refl refl refl,
  λ wrong. absurd (omega (arith, wrong.kept 0 (record { ceiling = 1; cells = [] }) (omega arith))),
  λ wrong. absurd (cc (wrong.rows 2 (omega arith))),
)
