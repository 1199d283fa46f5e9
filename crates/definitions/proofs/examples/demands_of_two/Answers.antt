-- By tests that compute. In the wrong table u has a whole unit of a at one half and goes on.
use Rattle.std.proofs.Common.{refl, arith, []}
use Rattle.definitions.specs.Sets.{units_of}
use Rattle.definitions.specs.Trees.{chain_of, climb}
use Rattle.definitions.specs.Values.{market_of, capped_limits}
use Rattle.definitions.specs.Eating.{eaten_by, eaten_from, eaten_along, full_at}
use Rattle.definitions.specs.Examples.{two_demands, two_demands_units}
use Rattle.definitions.proofs.Computed.{problem_by_tests, family_by_tests, table_by_tests, lowest_by_neighbours, assignment_by_tests, trees_by_tests, certificate_by_tests, small_trees}
use Rattle.definitions.proofs.examples.demands_of_two.Goals as goal

pub returns : goal.returns
unfolding eaten_by eaten_from eaten_along full_at capped_limits chain_of climb
returns c = (
  problem_by_tests two_demands refl refl refl refl refl refl refl refl refl refl (family_by_tests two_demands.family refl refl refl refl refl refl) refl refl refl refl refl refl refl,
  table_by_tests (market_of two_demands) _ _ refl refl refl refl refl refl,
  lowest_by_neighbours _ _ 2 1 (omega arith) (omega arith) refl,
  assignment_by_tests 3 (market_of two_demands) _ _ _ refl refl refl refl refl,
  record { trees = small_trees; of_family = trees_by_tests two_demands.family small_trees refl refl refl refl refl refl refl; prices = refl; worths = refl },
  certificate_by_tests two_demands 6 (units_of two_demands_units) _ refl refl refl refl refl refl,
  (2, omega arith, omega arith),
  λ alike. absurd (cc (alike.sets 2 (record { ceiling = 0; cells = [] }) (omega arith) 0 (omega arith))),
  λ wrong. absurd (omega (arith, wrong.before 2 3 (omega arith) (omega arith))),
)
