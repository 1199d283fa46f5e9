use Rattle.std.proofs.Common.{refl}
use Rattle.side_finder.specs.Graphs.{joined}
use Rattle.side_finder.proofs.crossings.Crossings.cross.Goals as goal

pub returns : goal.returns
unfolding joined
returns c = rw (c.crosses_by.ensures, c.is_set.ensures, c.is_set-2.ensures, c.is_set-3.ensures, c.overlap-there.ensures, c.overlap-back.ensures) refl
