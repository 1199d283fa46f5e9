-- By tests that compute. In the wrong table d has been given no unit at the moment 1, and isn't full; in the wrong part b is full.
use Rattle.std.proofs.Common.{refl, arith}
use Rattle.definitions.specs.Eating.{eaten_by, eaten_from, eaten_along, full_at}
use Rattle.definitions.specs.Values.{market_of, capped_limits}
use Rattle.definitions.specs.Examples.{four_agents}
use Rattle.definitions.proofs.Computed.{problem_by_tests, family_by_tests, table_by_tests, lowest_by_neighbours, assignment_by_tests, partial_by_tests}
use Rattle.definitions.proofs.examples.tied_moment.Goals as goal

pub returns : goal.returns
unfolding eaten_by eaten_from eaten_along full_at capped_limits
returns c = (
  problem_by_tests four_agents refl refl refl refl refl refl refl refl refl refl (family_by_tests four_agents.family refl refl refl refl refl refl) refl refl refl refl refl refl refl,
  table_by_tests (market_of four_agents) _ _ refl refl refl refl refl refl,
  lowest_by_neighbours _ _ 0 2 (omega arith) (omega arith) refl,
  assignment_by_tests 5 (market_of four_agents) _ _ _ refl refl refl refl refl,
  partial_by_tests (market_of four_agents) _ _ _ refl refl refl (1, omega arith, refl) refl refl,
  λ wrong. absurd (cc (wrong.full 3 (omega arith) (omega arith))),
  λ wrong. absurd (omega (arith, wrong.before 1 1 (omega arith) (omega arith) (omega arith))),
)
