-- By tests that compute. In the second lottery b is given in 5 tickets of 12, not 4; a share of 1/4 for b is 3 of 12, not 4.
use Rattle.std.proofs.Common.{refl, arith, inr}
use Rattle.definitions.specs.Examples.{mixed_lottery}
use Rattle.definitions.proofs.Computed.{decomposition_by_tests, lottery_by_tests}
use Rattle.definitions.proofs.MixedShares.{mixed_scale}
use Rattle.definitions.proofs.examples.shares_split.Goals as goal

pub returns : goal.returns
returns c = (
  record {
    lottery = lottery_by_tests (mixed_lottery 3 4 5) refl refl refl refl refl refl (inr (record { named = refl; prices = refl; lists = refl })) refl refl refl;
    agents = refl;
    columns = refl;
    scaled = mixed_scale;
    plain = (refl, refl);
    pieces = decomposition_by_tests 3 _ _ 12 _ refl refl refl refl refl refl;
  },
  λ wrong. absurd (cc (wrong.pieces.cells 1 (omega arith))),
  λ wrong. absurd (cc (wrong.pieces.cells 1 (omega arith))),
  λ wrong. absurd (omega (arith, wrong.scaled.units 1 (record { num = 1; den = 4 }) refl)),
)
