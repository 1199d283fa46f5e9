-- By tests that compute. In the first wrong certificate z's worths don't fall; in the second x gains more from a than from b.
use Rattle.std.proofs.Common.{refl, arith, inl, ◌∷◌, []}
use Rattle.std.specs.Prelude.{pos}
use Rattle.std.proofs.lemmas.Int.{ints}
use Rattle.definitions.specs.Sets.{units_of}
use Rattle.definitions.specs.Trees.{chain_of, climb}
use Rattle.definitions.specs.Values.{market_of, capped_limits, IsProblem, PricesValue}
use Rattle.definitions.specs.Eating.{eaten_by, eaten_from, eaten_along, full_at}
use Rattle.definitions.specs.Examples.{uneaten_place, uneaten_units, uneaten_lottery, prices_from}
use Rattle.definitions.proofs.Computed.{problem_by_tests, family_by_tests, table_by_tests, lowest_by_neighbours, assignment_by_tests, trees_by_tests, certificate_by_tests, decomposition_by_tests, lottery_by_tests, small_trees}
use Rattle.definitions.proofs.examples.uneaten_place.Goals as goal

lawful : IsProblem uneaten_place
lawful = problem_by_tests uneaten_place refl refl refl refl refl refl refl refl refl refl (family_by_tests uneaten_place.family refl refl refl refl refl refl) refl refl refl refl refl refl refl

abbrev certificate : PricesValue
certificate = prices_from (8 ∷ 4 ∷ []) ((pos 8 ∷ pos 4 ∷ pos 0 ∷ []) ∷ (pos 8 ∷ pos 4 ∷ pos 0 ∷ []) ∷ (pos 4 ∷ pos 1 ∷ pos 0 ∷ []) ∷ [])

pub returns : goal.returns
unfolding eaten_by eaten_from eaten_along full_at capped_limits chain_of climb
returns c = (
  lawful,
  record {
    problem = lawful;
    lottery = lottery_by_tests uneaten_lottery refl refl refl refl refl refl (inl (record { named = refl; prices = certificate; given = refl; lists = refl; worths = refl })) refl refl refl;
    agents = refl;
    columns = refl;
    lists = refl;
    moments = 3 ∷ 4 ∷ [];
    prices = certificate;
    table = table_by_tests (market_of uneaten_place) _ _ refl refl refl refl refl refl;
    lowest = lowest_by_neighbours _ _ 0 1 (omega arith) (omega arith) refl;
    rows = assignment_by_tests 3 (market_of uneaten_place) _ _ _ refl refl refl refl refl;
    priced = refl;
    recipe = record { trees = small_trees; of_family = trees_by_tests uneaten_place.family small_trees refl refl refl refl refl refl refl; prices = refl; worths = refl };
    certified = certificate_by_tests uneaten_place 6 (units_of uneaten_units) _ refl refl refl refl refl refl;
    pieces = decomposition_by_tests 3 _ _ 6 _ refl refl refl refl refl refl;
  },
  λ wrong. absurd (omega (arith, ints, (wrong.fall 2 [] (omega arith)).0)),
  λ wrong. absurd (omega (arith, ints, wrong.best 0 1 0 (omega arith) (omega arith) (omega arith) (omega arith) refl)),
)
