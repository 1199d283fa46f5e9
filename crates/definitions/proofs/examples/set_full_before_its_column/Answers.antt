-- By tests that compute. In the wrong table x and y have more than one unit of a.
use Rattle.std.proofs.Common.{refl, arith}
use Rattle.definitions.specs.Values.{market_of, capped_limits}
use Rattle.definitions.specs.Eating.{eaten_by, eaten_from, eaten_along, full_at}
use Rattle.definitions.specs.Examples.{shared_limit}
use Rattle.definitions.proofs.Computed.{problem_by_tests, family_by_tests, table_by_tests, lowest_by_neighbours, assignment_by_tests}
use Rattle.definitions.proofs.examples.set_full_before_its_column.Goals as goal

pub returns : goal.returns
unfolding eaten_by eaten_from eaten_along full_at capped_limits
returns c = (
  problem_by_tests shared_limit refl refl refl refl refl refl refl refl refl refl (family_by_tests shared_limit.family refl refl refl refl refl refl) refl refl refl refl refl refl refl,
  table_by_tests (market_of shared_limit) _ _ refl refl refl refl refl refl,
  lowest_by_neighbours _ _ 2 0 (omega arith) (omega arith) refl,
  assignment_by_tests 3 (market_of shared_limit) _ _ _ refl refl refl refl refl,
  λ wrong. absurd (omega (arith, wrong.kept 2 (omega arith))),
)
