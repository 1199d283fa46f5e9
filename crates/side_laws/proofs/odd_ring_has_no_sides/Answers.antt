-- Two crossing sets on one side are found; a colouring has none.
use Rattle.side_laws.proofs.Rings.{ring_leaves_crossing, ring_has_no_coloring}
use Rattle.side_laws.proofs.odd_ring_has_no_sides.Goals as goal

pub returns : goal.returns
returns c sets ring r = (λ sides two. ring_leaves_crossing sets ring r sides two.0 two.1, ring_has_no_coloring sets ring r)
