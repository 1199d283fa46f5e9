use Rattle.std.proofs.Common.{◌≡◌, drop, ◌≤◌, ◌-◌, length}
use Rattle.plane_kernel.specs.Words.{words_meet}
use Rattle.plane_kernel.proofs.meets_words.Given as goal

abbrev pub invariant-loop-at : goal.invariant-loop-at
invariant-loop-at l = record { within : l.at ≤ length l.a; left : words_meet l.a l.b ≡ words_meet (drop l.at l.a) (drop l.at l.b) }

abbrev pub decreases-loop-at : goal.decreases-loop-at
decreases-loop-at l = length l.a - l.at
