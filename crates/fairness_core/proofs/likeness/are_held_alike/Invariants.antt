use Rattle.std.proofs.Common.{length, take, All}
use Rattle.definitions.specs.Values.{stated_sets}
use Rattle.fairness_core.specs.Alike.{HoldsAlike}
use Rattle.fairness_core.proofs.likeness.are_held_alike.Given as goal

abbrev pub invariant-loop-index : goal.invariant-loop-index
invariant-loop-index l = All (λ s. HoldsAlike (length l.problem.objects) l.one l.other s.cells) (take l.index (stated_sets l.problem))
