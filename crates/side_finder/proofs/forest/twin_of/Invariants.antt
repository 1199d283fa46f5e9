use Rattle.std.proofs.Common.{ℕ, ◌<◌}
use Rattle.side_finder.specs.Marks.{AreTwins}
use Rattle.side_finder.proofs.forest.twin_of.Given as goal

abbrev pub invariant-loop-second : goal.invariant-loop-second
invariant-loop-second l = (b : ℕ) → b < l.second → AreTwins l.crossings l.marks l.first b → ⊥
