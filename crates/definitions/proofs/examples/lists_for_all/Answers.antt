-- By tests that compute; and no list is not three.
use Rattle.std.proofs.Common.{refl, inl, inr}
use Rattle.definitions.specs.Examples.{uneaten_lottery}
use Rattle.definitions.proofs.Computed.{lottery_by_tests}
use Rattle.definitions.proofs.examples.lists_for_all.Goals as goal

pub returns : goal.returns
returns c = (
  lottery_by_tests uneaten_lottery refl refl refl refl refl refl (inl (record { named = refl; prices = _; given = refl; lists = refl; worths = refl })) refl refl refl,
  λ wrong. elim wrong.priced [
    | inl priced ↦ cc priced.lists
    | inr plain ↦ cc plain.named
  ],
)
