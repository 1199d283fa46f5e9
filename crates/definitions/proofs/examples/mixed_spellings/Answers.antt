-- By tests that compute. Of the wrong pieces, the first list is too long, and in the second none gives a.
use Rattle.std.proofs.Common.{refl, arith, []}
use Rattle.definitions.specs.Texts.{share_of, count_of}
use Rattle.definitions.proofs.Computed.{decomposition_by_tests}
use Rattle.definitions.proofs.MixedShares.{mixed_scale}
use Rattle.definitions.proofs.examples.mixed_spellings.Goals as goal

pub returns : goal.returns
unfolding share_of count_of
returns c = (
  refl,
  refl,
  refl,
  refl,
  refl,
  refl,
  mixed_scale,
  decomposition_by_tests 3 [] _ 12 _ refl refl refl refl refl refl,
  decomposition_by_tests 3 [] _ 12 _ refl refl refl refl refl refl,
  λ wrong. absurd (omega (arith, wrong.few)),
  λ wrong. absurd (cc (wrong.cells 0 (omega arith))),
)
