use Rattle.std.proofs.Common.{◌≡◌, map, take}
use Rattle.side_finder.specs.Marks.{side_of}
use Rattle.side_finder.proofs.forest.sides_of.Given as goal

abbrev pub invariant-loop-mark : goal.invariant-loop-mark
invariant-loop-mark l = l.sides.items ≡ map side_of (take l.mark-index l.marks)
