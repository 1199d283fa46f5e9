use Rattle.std.proofs.Common.{ℕ, List, length, get_or, inl, inr, subst}
use Rattle.bounded_flow.specs.declared.search.End.{End}
use Rattle.bounded_flow.specs.Searches.{Reached}
use Rattle.bounded_flow.proofs.Looking.{Looked, Stops, looked_more, looked_all}
use Rattle.bounded_flow.proofs.search.look.Goals as goal

pub loop-at-preserved : goal.loop-at-preserved
loop-at-preserved c =
    let n : ℕ = length c.args.search.now.place.items in
    let none : End = record { node = 0; edge = 0 } in
    let reached : Reached c.args.edges.now n c.visit.new.search = subst (λ (k : ℕ). Reached c.args.edges.now k c.visit.new.search) c.loop-at.invariant.reached.room.places c.visit.ensures.reached in
    looked_more c.args.edges.now n c.args.search.now c.loop-at.search c.visit.new.search c.as_slice-ends.result.now (get_or c.args.adjacency.now.first.items c.args.node 0) c.loop-at.at c.args.node none
    c.loop-at.invariant reached c.visit.ensures.later c.loop-at-test.true c.if-ends-at.true c.visit.ensures.followed

pub returns-else-ends-at-clause-followed : goal.returns-else-ends-at-clause-followed
returns-else-ends-at-clause-followed c =
    let n : ℕ = length c.args.search.now.place.items in
    let none : End = record { node = 0; edge = 0 } in
    let a = c.args.adjacency.now in
    let ends = c.as_slice-ends.ensures.value in
    let looked = subst (λ (e : List End). Looked c.args.edges.now n c.args.search.now c.loop-at.search e (get_or a.first.items c.args.node 0) c.loop-at.at c.args.node) ends c.loop-at.invariant in
    let stops = subst (λ (e : List End). Stops e c.loop-at.at c.args.node none) ends (inr (c.loop-at-test.true, c.if-ends-at.false)) in
    looked_all c.args.edges.now n c.args.search.now c.loop-at.search a c.loop-at.at c.args.node none c.requires.adjacent c.requires.here.0 looked stops

pub returns-after-loop-at-clause-followed : goal.returns-after-loop-at-clause-followed
returns-after-loop-at-clause-followed c =
    let n : ℕ = length c.args.search.now.place.items in
    let none : End = record { node = 0; edge = 0 } in
    let a = c.args.adjacency.now in
    let ends = c.as_slice-ends.ensures.value in
    let looked = subst (λ (e : List End). Looked c.args.edges.now n c.args.search.now c.loop-at.search e (get_or a.first.items c.args.node 0) c.loop-at.at c.args.node) ends c.loop-at.invariant in
    let stops = subst (λ (e : List End). Stops e c.loop-at.at c.args.node none) ends (inl c.loop-at-test.false) in
    looked_all c.args.edges.now n c.args.search.now c.loop-at.search a c.loop-at.at c.args.node none c.requires.adjacent c.requires.here.0 looked stops
