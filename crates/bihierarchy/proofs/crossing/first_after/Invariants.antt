use Rattle.std.proofs.Common.{ℕ, ◌<◌}
use Rattle.definitions.specs.Sets.{IsSet}
use Rattle.bihierarchy.specs.Crossing.{CrossOnOneSide}
use Rattle.bihierarchy.proofs.crossing.first_after.Given as goal

abbrev pub invariant-loop-second : goal.invariant-loop-second
invariant-loop-second l = (t : ℕ) → IsSet l.family t → l.first < t → t < l.second → CrossOnOneSide l.family l.first t → ⊥
