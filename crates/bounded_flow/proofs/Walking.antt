-- The way back along the ways that a search found.
use Rattle.std.proofs.Common.{◌≡◌, ℕ, ◌<◌, ◌≤◌, ◌⊎◌, List, length, map, get_or, ap, sym, ◌∙◌, subst, inl, inr, arith, All}
use Rattle.std.proofs.Math.ListN.{set}
use Rattle.std.proofs.lemmas.Bool.{cases_eq}
use Rattle.std.proofs.lemmas.List.{get_or-set_other, get_or-set_same, get_or_default, length-set}
use Rattle.std.proofs.lemmas.List.Elements.{All-set}
use Rattle.bounded_flow.specs.declared.edge.Edge.{Edge}
use Rattle.bounded_flow.specs.declared.search.Search.{Search}
use Rattle.bounded_flow.specs.Edges.{rest_of, gap_of, enters, leaves, wire, IsSound, Pushed}
use Rattle.bounded_flow.specs.Flows.{Owes}
use Rattle.bounded_flow.specs.Searches.{Reached}
use Rattle.bounded_flow.proofs.Pushes.{owes_push, wires_push, rests_push}

-- walked back to this node: the debt is there, the edges that enter it or a node with an earlier place are as they were, and every
-- other edge is as it was or was pushed once
pub record Walked (left : ℕ) (old edges : List Edge) (n to node : ℕ) (place : List ℕ) (seen : ℕ) : Type 0 where
  pub here : node < n
  pub was_seen : get_or place node 0 < seen
  pub many : length edges ≡ length old
  pub wires : map wire edges ≡ map wire old
  pub rests : map (rest_of left) edges ≡ map (rest_of left) old
  pub sound : All (IsSound left) edges
  pub owes : Owes (λ e. e.whole) edges n to node 1
  pub once : (b : ℕ) (d : Edge) → b < length old → (get_or edges b d ≡ get_or old b d) ⊎ ((0 < gap_of (get_or old b d)) × Pushed left (get_or old b d) (get_or edges b d))
  pub untouched : (b : ℕ) (d : Edge) → b < length old → 0 < gap_of (get_or old b d) → get_or place (enters (get_or old b d)) 0 ≤ get_or place node 0 → get_or edges b d ≡ get_or old b d

-- one edge back
pub walked_more : (left : ℕ) (old edges : List Edge) (n to node : ℕ) (s : Search) (d e' : Edge) → Walked left old edges n to node s.place.items s.seen → Reached old n s → 0 < get_or s.place.items node 0
    → IsSound left e' → Pushed left (get_or edges (get_or s.way.items node 0) d) e'
    → Walked left old (set edges (get_or s.way.items node 0) e') n to (leaves (get_or edges (get_or s.way.items node 0) d)) s.place.items s.seen
walked_more left old edges n to node s d e' w reached far sounds pushed =
    let place = s.place.items in
    let b : ℕ = get_or s.way.items node 0 in
    let way = reached.ways node w.here far w.was_seen in
    let inside : b < length old = way.inside in
    let enters_node : (f : Edge) → enters (get_or old b f) ≡ node = way.enters_it in
    let early : (f : Edge) → get_or place (enters (get_or old b f)) 0 ≤ get_or place node 0 = λ f. (let e = ap (λ t. get_or place t 0) (enters_node f) in omega (arith, e)) in
    let same : (f : Edge) → get_or edges b f ≡ get_or old b f = λ f. w.untouched b f inside (way.off f) (early f) in
    let within : b < length edges = omega (arith, w.many, inside) in
    let off : 0 < gap_of (get_or edges b d) = subst (λ (e : Edge). 0 < gap_of e) (sym (same d)) (way.off d) in
    let entered : node ≡ enters (get_or edges b d) = sym (ap enters (same d) ∙ enters_node d) in
    let left_is : leaves (get_or edges b d) ≡ leaves (get_or old b d) = ap leaves (same d) in
    let earlier : get_or place (leaves (get_or edges b d)) 0 < get_or place node 0 = subst (λ (e : Edge). get_or place (leaves e) 0 < get_or place node 0) (sym (same d)) (way.earlier d) in
    let sound : IsSound left (get_or edges b d) = w.sound b d within in
    record {
      here = subst (λ (e : Edge). leaves e < n) (sym (same d)) (way.in_place d);
      was_seen = omega (arith, earlier, w.was_seen);
      many = length-set edges b e' ∙ w.many;
      wires = wires_push left edges b d e' pushed ∙ w.wires;
      rests = rests_push left edges b d e' sound sounds pushed ∙ w.rests;
      sound = All-set (IsSound left) edges b e' sounds w.sound;
      owes = owes_push left edges n to b d e' within pushed off (subst (λ (t : ℕ). Owes (λ e. e.whole) edges n to t 1) entered w.owes);
      once = λ k f known. elim (cases_eq k b) [
        | inl here ↦ (
            let now : get_or (set edges b e') k f ≡ e' = ap (λ j. get_or (set edges b e') j f) here ∙ get_or-set_same edges b e' f within in
            let before : get_or edges b d ≡ get_or old k f = get_or_default edges b d f within ∙ same f ∙ ap (λ j. get_or old j f) (sym here) in
            inr (
              subst (λ (e : Edge). 0 < gap_of e) before off,
              subst (λ (e : Edge). Pushed left (get_or old k f) e) (sym now) (subst (λ (e : Edge). Pushed left e e') before pushed),
            ))
        | inr other ↦ subst (λ (e : Edge). (e ≡ get_or old k f) ⊎ ((0 < gap_of (get_or old k f)) × Pushed left (get_or old k f) e)) (sym (get_or-set_other edges b k e' f other)) (w.once k f known)
      ];
      untouched = λ k f known off_k low.
          let other : k ≡ b → ⊥ = λ e.
          (let enters_k : enters (get_or old k f) ≡ node = ap (λ j. enters (get_or old j f)) e ∙ enters_node f in
          let at = ap (λ t. get_or place t 0) enters_k in
          omega (arith, at, low, earlier)) in
          get_or-set_other edges b k e' f other ∙ w.untouched k f known off_k (omega (arith, low, earlier));
    }

-- the walk gets to a node with an earlier place
pub walked_falls : (left : ℕ) (old edges : List Edge) (n to node : ℕ) (s : Search) (d : Edge) → Walked left old edges n to node s.place.items s.seen → Reached old n s → 0 < get_or s.place.items node 0
    → get_or s.place.items (leaves (get_or edges (get_or s.way.items node 0) d)) 0 < get_or s.place.items node 0
walked_falls left old edges n to node s d w reached far =
    let place = s.place.items in
    let b : ℕ = get_or s.way.items node 0 in
    let way = reached.ways node w.here far w.was_seen in
    let e = ap (λ t. get_or place t 0) (way.enters_it d) in
    let same : get_or edges b d ≡ get_or old b d = w.untouched b d way.inside (way.off d) (omega (arith, e)) in
    subst (λ (x : Edge). get_or place (leaves x) 0 < get_or place node 0) (sym same) (way.earlier d)

-- two nodes with place 0 are one
pub at_front : (edges : List Edge) (n u v : ℕ) (s : Search) → Reached edges n s → u < n → v < n → get_or s.place.items u 0 ≡ 0 → get_or s.place.items v 0 ≡ 0 → 1 ≤ s.seen → u ≡ v
at_front edges n u v s reached lu lv zu zv some = elim (reached.marked.marked u lu) [
  | inr e ↦ absurd (omega (arith, e, zu, lu))
  | inl hu ↦ elim (reached.marked.marked v lv) [
    | inr e ↦ absurd (omega (arith, e, zv, lv))
    | inl hv ↦ sym hu.1 ∙ ap (λ j. get_or s.queue.items j 0) (zu ∙ sym zv) ∙ hv.1
  ]
]
