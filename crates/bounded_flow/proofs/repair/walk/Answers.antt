use Rattle.std.proofs.Common.{ap, ◌≡◌, ◌<◌, ℕ, List, length, get_or, subst, sym, ◌∙◌, inl, inr, arith}
use Rattle.std.proofs.Math.ListN.{set}
use Rattle.std.proofs.lemmas.List.{get_or_default}
use Rattle.bounded_flow.specs.declared.edge.Edge.{Edge}
use Rattle.bounded_flow.specs.declared.search.Search.{Search}
use Rattle.bounded_flow.specs.Edges.{gap_of, leaves, IsSound, Pushed}
use Rattle.bounded_flow.specs.Searches.{Reached}
use Rattle.bounded_flow.proofs.Pushes.{none_or_some}
use Rattle.key_queue.specs.declared.key.Falling.{Falling}
use Rattle.bounded_flow.specs.Ranks.{IsRanked}
use Rattle.bounded_flow.proofs.Ranking.{ranked_set}
use Rattle.bounded_flow.proofs.Walking.{Walked, walked_more, walked_falls, at_front}
use Rattle.bounded_flow.proofs.repair.walk.Goals as goal

-- the node walked to isn't the start
far : (edges : List Edge) (n from node : ℕ) (s : Search) → Reached edges n s → (from < n) × (get_or s.place.items from 0 ≡ 0) → node < n → get_or s.place.items node 0 < s.seen → (node ≡ from → ⊥) → 0 < get_or s.place.items node 0
far edges n from node s reached first here seen other = elim (none_or_some (get_or s.place.items node 0)) [
  | inl zero ↦ absurd (other (at_front edges n node from s reached here first.0 zero first.1 (omega (arith, seen))))
  | inr some ↦ some
]

step : (left : ℕ) (old edges : List Edge) (n to node next r : ℕ) (s : Search) (d e' : Edge) → Walked left old edges n to node s.place.items s.seen → Reached old n s → 0 < get_or s.place.items node 0
    → r ≡ get_or s.way.items node 0 → next ≡ leaves (get_or edges r d) → IsSound left e' → Pushed left (get_or edges r d) e' → Walked left old (set edges r e') n to next s.place.items s.seen
step left old edges n to node next r s d e' walked reached some at is sound pushed =
    let b : ℕ = get_or s.way.items node 0 in
    let more = walked_more left old edges n to node s d e' walked reached some sound (subst (λ (j : ℕ). Pushed left (get_or edges j d) e') at pushed) in
    subst (λ (t : ℕ). Walked left old (set edges r e') n to t s.place.items s.seen) (sym is)
    (subst (λ (j : ℕ). Walked left old (set edges j e') n to (leaves (get_or edges j d)) s.place.items s.seen) (sym at) more)

falls : (left : ℕ) (old edges : List Edge) (n to node next r : ℕ) (s : Search) (d : Edge) → Walked left old edges n to node s.place.items s.seen → Reached old n s → 0 < get_or s.place.items node 0
    → r ≡ get_or s.way.items node 0 → next ≡ leaves (get_or edges r d) → get_or s.place.items next 0 < get_or s.place.items node 0
falls left old edges n to node next r s d walked reached some at is =
    subst (λ (t : ℕ). get_or s.place.items t 0 < get_or s.place.items node 0) (sym is)
    (subst (λ (j : ℕ). get_or s.place.items (leaves (get_or edges j d)) 0 < get_or s.place.items node 0) (sym at) (walked_falls left old edges n to node s d walked reached some))

-- the edge over which a node was reached can be pushed still
on_way : (left : ℕ) (old edges : List Edge) (n to node r : ℕ) (s : Search) (d : Edge) → Walked left old edges n to node s.place.items s.seen → Reached old n s → 0 < get_or s.place.items node 0
    → r ≡ get_or s.way.items node 0 → (r < length edges) × (0 < gap_of (get_or edges r d))
on_way left old edges n to node r s d w reached some at =
    let way = reached.ways node w.here some w.was_seen in
    let many = w.many in
    let b : ℕ = get_or s.way.items node 0 in
    let e = ap (λ t. get_or s.place.items t 0) (way.enters_it d) in
    let same : get_or edges b d ≡ get_or old b d = w.untouched b d way.inside (way.off d) (omega (arith, e)) in
    (omega (arith, at, way.inside, many), subst (λ (j : ℕ). 0 < gap_of (get_or edges j d)) (sym at) (subst (λ (x : Edge). 0 < gap_of x) (sym same) (way.off d)))

pub push-requires-clause-sound : goal.push-requires-clause-sound
push-requires-clause-sound c =
    let s = c.args.search.now in
    let n : ℕ = length s.place.items in
    let w = c.loop-node.invariant.walked in
    let d : Edge = record { tail = 0; head = 0; whole = 0; under = 0; over = 0 } in
    let some = far c.args.edges.now n c.args.from c.loop-node.node s c.requires.reached c.requires.first w.here w.was_seen c.loop-node-test.true in
    let within : c.loop-node.node < length s.way.items = omega (arith, w.here, c.requires.reached.room.ways) in
    let at : c.index.result.now ≡ get_or s.way.items c.loop-node.node 0 = c.index.ensures ∙ get_or_default s.way.items c.loop-node.node c.index.result.now 0 within in
    let there = on_way c.args.left c.args.edges.now c.loop-node.edges n c.args.to c.loop-node.node c.index.result.now s d w c.requires.reached some at in
    w.sound c.index.result.now d there.0

pub push-requires-clause-off : goal.push-requires-clause-off
push-requires-clause-off c =
    let s = c.args.search.now in
    let n : ℕ = length s.place.items in
    let w = c.loop-node.invariant.walked in
    let d : Edge = record { tail = 0; head = 0; whole = 0; under = 0; over = 0 } in
    let some = far c.args.edges.now n c.args.from c.loop-node.node s c.requires.reached c.requires.first w.here w.was_seen c.loop-node-test.true in
    let within : c.loop-node.node < length s.way.items = omega (arith, w.here, c.requires.reached.room.ways) in
    let at : c.index.result.now ≡ get_or s.way.items c.loop-node.node 0 = c.index.ensures ∙ get_or_default s.way.items c.loop-node.node c.index.result.now 0 within in
    let there = on_way c.args.left c.args.edges.now c.loop-node.edges n c.args.to c.loop-node.node c.index.result.now s d w c.requires.reached some at in
    there.1

pub set_key-requires : goal.set_key-requires
set_key-requires c =
    let s = c.args.search.now in
    let n : ℕ = length s.place.items in
    let w = c.loop-node.invariant.walked in
    let d : Edge = record { tail = 0; head = 0; whole = 0; under = 0; over = 0 } in
    let some = far c.args.edges.now n c.args.from c.loop-node.node s c.requires.reached c.requires.first w.here w.was_seen c.loop-node-test.true in
    let within : c.loop-node.node < length s.way.items = omega (arith, w.here, c.requires.reached.room.ways) in
    let at : c.index.result.now ≡ get_or s.way.items c.loop-node.node 0 = c.index.ensures ∙ get_or_default s.way.items c.loop-node.node c.index.result.now 0 within in
    let there = on_way c.args.left c.args.edges.now c.loop-node.edges n c.args.to c.loop-node.node c.index.result.now s d w c.requires.reached some at in
    let again : c.index-in-loop-node.result.now ≡ c.index.result.now = c.index-in-loop-node.ensures ∙ get_or_default s.way.items c.loop-node.node c.index-in-loop-node.result.now 0 within ∙ sym at in
    let many = c.loop-node.invariant.ranked.many in
    omega (arith, again, there.0, many)

pub loop-node-smaller : goal.loop-node-smaller
loop-node-smaller c =
    let s = c.args.search.now in
    let n : ℕ = length s.place.items in
    let w = c.loop-node.invariant.walked in
    let d : Edge = record { tail = 0; head = 0; whole = 0; under = 0; over = 0 } in
    let some = far c.args.edges.now n c.args.from c.loop-node.node s c.requires.reached c.requires.first w.here w.was_seen c.loop-node-test.true in
    let within : c.loop-node.node < length s.way.items = omega (arith, w.here, c.requires.reached.room.ways) in
    let at : c.index.result.now ≡ get_or s.way.items c.loop-node.node 0 = c.index.ensures ∙ get_or_default s.way.items c.loop-node.node c.index.result.now 0 within in
    falls c.args.left c.args.edges.now c.loop-node.edges n c.args.to c.loop-node.node c.leaves-next.result c.index.result.now s d w c.requires.reached some at c.leaves-next.ensures

pub loop-node-preserved : goal.loop-node-preserved
loop-node-preserved c =
    let s = c.args.search.now in
    let n : ℕ = length s.place.items in
    let w = c.loop-node.invariant.walked in
    let d : Edge = record { tail = 0; head = 0; whole = 0; under = 0; over = 0 } in
    let some = far c.args.edges.now n c.args.from c.loop-node.node s c.requires.reached c.requires.first w.here w.was_seen c.loop-node-test.true in
    let within : c.loop-node.node < length s.way.items = omega (arith, w.here, c.requires.reached.room.ways) in
    let at : c.index.result.now ≡ get_or s.way.items c.loop-node.node 0 = c.index.ensures ∙ get_or_default s.way.items c.loop-node.node c.index.result.now 0 within in
    let way = c.requires.reached.ways c.loop-node.node w.here some w.was_seen in
    let many = w.many in
    let known : c.index.result.now < length c.loop-node.edges = omega (arith, at, way.inside, many) in
    let again : c.index-in-loop-node.result.now ≡ c.index.result.now = c.index-in-loop-node.ensures ∙ get_or_default s.way.items c.loop-node.node c.index-in-loop-node.result.now 0 within ∙ sym at in
    let key : Falling = record { 0 = c.gap-gap.result } in
    record {
      walked = step c.args.left c.args.edges.now c.loop-node.edges n c.args.to c.loop-node.node c.leaves-next.result c.index.result.now s d c.push.new.self w c.requires.reached some at c.leaves-next.ensures c.push.ensures.sound c.push.ensures.pushed;
      ranked = subst (λ (ks : List Falling). IsRanked (set c.loop-node.edges c.index.result.now c.push.new.self) ks) (sym (c.set_key.ensures ∙ ap (λ j. set c.loop-node.gaps j key) again))
          (ranked_set c.loop-node.edges c.loop-node.gaps c.index.result.now c.push.new.self key c.loop-node.invariant.ranked c.gap-gap.ensures known);
    }
