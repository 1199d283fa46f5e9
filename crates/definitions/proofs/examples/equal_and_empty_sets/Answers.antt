-- By tests that compute. In the wrong trees set 4 is above set 3 and below its entry, set 1.
use Rattle.std.proofs.Common.{refl, arith, inl, inr}
use Rattle.definitions.specs.Examples.{equal_sets}
use Rattle.definitions.proofs.Computed.{trees_by_tests, is_above_by_test}
use Rattle.definitions.proofs.examples.equal_and_empty_sets.Goals as goal

pub returns : goal.returns
returns c = (
  trees_by_tests equal_sets _ refl refl refl refl refl refl refl,
  λ wrong. elim ((wrong.parents 3 (omega arith, omega arith)).least 4 (is_above_by_test equal_sets 3 4 refl)) [
    | inl same ↦ absurd (cc same)
    | inr lower ↦ elim lower [
      | inl less ↦ absurd (omega (arith, less))
      | inr equal ↦ absurd (cc equal.0)
    ]
  ],
)
