use Rattle.std.proofs.Common.{ℕ, length, subst, sym}
use Rattle.bounded_flow.specs.Searches.{IsAdjacency}
use Rattle.bounded_flow.proofs.Adjacent.{adjacency_later}
use Rattle.bounded_flow.proofs.repair.mend.Goals as goal

pub repair-requires-clause-adjacent : goal.repair-requires-clause-adjacent
repair-requires-clause-adjacent c =
    let mended = c.loop-edges.invariant.mended in
    let later = adjacency_later (length c.args.search.now.place.items) c.args.edges.now c.loop-edges.edges c.args.adjacency.now mended.repair.wires mended.repair.even c.requires.adjacent in
    subst (λ (k : ℕ). IsAdjacency k c.args.adjacency.now c.loop-edges.edges) (sym mended.room.places) later
