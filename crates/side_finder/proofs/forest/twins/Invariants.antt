use Rattle.std.proofs.Common.{ℕ, ◌<◌}
use Rattle.side_finder.specs.Marks.{HasNoTwin}
use Rattle.side_finder.proofs.forest.twins.Given as goal

abbrev pub invariant-loop-first : goal.invariant-loop-first
invariant-loop-first l = (a : ℕ) → a < l.first → HasNoTwin l.crossings l.marks a
