use Rattle.std.proofs.Common.{ℕ, ◌<◌}
use Rattle.definitions.specs.Sets.{IsSet}
use Rattle.bihierarchy.specs.Crossing.{CrossOnOneSide}
use Rattle.bihierarchy.proofs.crossing.least_pair.Given as goal

abbrev pub invariant-loop-first : goal.invariant-loop-first
invariant-loop-first l = (s t : ℕ) → IsSet l.family s → IsSet l.family t → s < t → s < l.first → CrossOnOneSide l.family s t → ⊥
