-- By tests that compute. x has less of its first place in halves; and nothing is more than itself.
use Rattle.std.proofs.Math.Dec.{lit<}
use Rattle.std.proofs.Common.{refl, arith}
use Rattle.definitions.specs.Sets.{units_of}
use Rattle.definitions.specs.Examples.{opposite_wishes, wishes_met, halves}
use Rattle.definitions.proofs.Computed.{problem_by_tests, family_by_tests, dominance_by_tests}
use Rattle.definitions.proofs.examples.opposite_wishes.Goals as goal

pub returns : goal.returns
returns c = (
  problem_by_tests opposite_wishes refl refl refl refl refl refl refl refl refl refl (family_by_tests opposite_wishes.family refl refl refl refl refl refl) refl refl refl refl refl refl refl,
  dominance_by_tests opposite_wishes 1 (units_of wishes_met) 2 (units_of halves) refl (0, 1, omega arith, omega arith, lit< tt),
  λ wrong. absurd (omega (arith, wrong.each 0 1 (omega arith) (omega arith))),
  λ wrong. absurd (omega (arith, wrong.more.4)),
)
