-- By computing.
use Rattle.std.proofs.Common.{refl}
use Rattle.definitions.specs.Tickets.{piece_of}
use Rattle.definitions.proofs.examples.tickets_of_cells.Goals as goal

pub returns : goal.returns
unfolding piece_of
returns c = (refl, refl, refl, λ wrong. cc wrong, λ wrong. cc wrong)
