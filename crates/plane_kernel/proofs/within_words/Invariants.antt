use Rattle.std.proofs.Common.{◌≡◌, drop, ◌≤◌, ◌-◌, length}
use Rattle.plane_kernel.specs.Words.{words_within}
use Rattle.plane_kernel.proofs.within_words.Given as goal

abbrev pub invariant-loop-at : goal.invariant-loop-at
invariant-loop-at l = record { within : l.at ≤ length l.a; left : words_within l.a l.b ≡ words_within (drop l.at l.a) (drop l.at l.b) }

abbrev pub decreases-loop-at : goal.decreases-loop-at
decreases-loop-at l = length l.a - l.at
