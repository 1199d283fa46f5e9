use Rattle.side_finder.specs.Blocks.{AreHolders}
use Rattle.side_finder.proofs.overlaps.words_of.Given as goal

abbrev pub invariant-loop-bit : goal.invariant-loop-bit
invariant-loop-bit l = AreHolders l.family l.block l.bit l.words.items
