use Rattle.std.proofs.Common.{◌<◌, ◌≤◌, ℕ, ap, length, get_or, subst, sym, arith}
use Rattle.key_queue.specs.declared.key.Falling.{Falling}
use Rattle.bounded_flow.specs.declared.edge.Edge.{Edge}
use Rattle.bounded_flow.specs.Edges.{gap_of}
use Rattle.bounded_flow.specs.Searches.{IsAdjacency}
use Rattle.bounded_flow.proofs.Adjacent.{adjacency_later}
use Rattle.bounded_flow.proofs.Balances.{wires_many}
use Rattle.bounded_flow.proofs.Ranking.{all_below, wide_falls}
use Rattle.bounded_flow.proofs.repair.settle.Goals as goal

pub returns-then-widest-left-clause-settled : goal.returns-then-widest-left-clause-settled
returns-then-widest-left-clause-settled c =
    all_below c.loop-gaps.edges c.loop-gaps.gaps c.loop-gaps.invariant.ranked c.args.left c.top-index.result c.top-index.ensures.known c.top-index.ensures.first
    (λ d. (let e = ap (λ (x : Falling). x.0) (c.key-widest.ensures d) in omega (arith, e, c.if-widest-left.true)))

pub loop-gaps-smaller : goal.loop-gaps-smaller
loop-gaps-smaller c =
    let d : Edge = record { tail = 0; head = 0; whole = 0; under = 0; over = 0 } in
    let f : Falling = record { 0 = 0 } in
    let repair = c.mend.ensures.repair in
    let ranked = c.loop-gaps.invariant.ranked in
    let m = ranked.many in
    let known : c.top-index.result < length c.loop-gaps.edges = omega (arith, m, c.top-index.ensures.known) in
    let e = ap (λ (x : Falling). x.0) (c.key-widest.ensures f) in
    let is = ranked.same c.top-index.result d f known in
    let was : c.args.left ≤ gap_of (get_or c.loop-gaps.edges c.top-index.result d) = omega (arith, e, is, c.if-widest-left.false) in
    wide_falls c.args.left c.loop-gaps.edges c.mend.new.edges c.top-index.result d (wires_many c.mend.new.edges c.loop-gaps.edges repair.wires) repair.calm known was (c.mend.ensures.mended d)

pub mend-requires-clause-adjacent : goal.mend-requires-clause-adjacent
mend-requires-clause-adjacent c =
    let mended = c.loop-gaps.invariant.mended in
    let later = adjacency_later (length c.args.search.now.place.items) c.args.edges.now c.loop-gaps.edges c.args.adjacency.now mended.repair.wires mended.repair.even c.requires.adjacent in
    subst (λ (k : ℕ). IsAdjacency k c.args.adjacency.now c.loop-gaps.edges) (sym mended.room.places) later
