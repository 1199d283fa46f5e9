-- The scan of one node's part of the ends.
use Rattle.std.proofs.Common.{◌≡◌, ℕ, ◌+◌, ◌<◌, ◌≤◌, ◌⊎◌, Bool, true, false, cond, ltb, List, length, get_or, refl, ap, sym, ◌∙◌, subst, inl, inr, arith}
use Rattle.std.proofs.lemmas.Bool.{cases_eq, cases_lt}
use Rattle.std.proofs.lemmas.List.{get_or_default}
use Rattle.bounded_flow.specs.declared.edge.Edge.{Edge}
use Rattle.bounded_flow.specs.declared.search.End.{End}
use Rattle.bounded_flow.specs.declared.search.Adjacency.{Adjacency}
use Rattle.bounded_flow.specs.declared.search.Search.{Search}
use Rattle.bounded_flow.specs.Edges.{enters, gap_of, leaves}
use Rattle.bounded_flow.specs.Searches.{IsAdjacency, Reached, IsLater, IsFollowed}

-- the ends from this place on and before that one are of the node, and their edges are followed
pub record Looked (edges : List Edge) (n : ℕ) (old now : Search) (ends : List End) (start at node : ℕ) : Type 0 where
  pub reached : Reached edges n now
  pub later : IsLater old now
  pub order : start ≤ at
  pub passed : (k : ℕ) (d : End) → start ≤ k → k < at → ((get_or ends k d).node ≡ node) × IsFollowed edges now node (get_or ends k d).edge

-- what is later than what is later is later
pub later_later : (old now new : Search) → IsLater old now → IsLater now new → IsLater old new
later_later old now new a b = record {
  seen = omega (arith, a.seen, b.seen);
  places = λ v h.
      let first : get_or now.place.items v 0 ≡ get_or old.place.items v 0 = a.places v h in
      b.places v (omega (arith, first, h, a.seen)) ∙ first;
}

-- an edge that was followed stays followed
pub followed_later : (edges : List Edge) (now new : Search) (node b : ℕ) → IsLater now new → IsFollowed edges now node b → IsFollowed edges new node b
followed_later edges now new node b later followed d off from =
    let was : get_or now.place.items (enters (get_or edges b d)) 0 < now.seen = followed d off from in
    omega (arith, was, later.seen, later.places (enters (get_or edges b d)) was)

-- one more end is looked at
pub looked_more : (edges : List Edge) (n : ℕ) (old now new : Search) (ends : List End) (start at node : ℕ) (none : End) → Looked edges n old now ends start at node → Reached edges n new → IsLater now new
    → at < length ends → (get_or ends at none).node ≡ node → IsFollowed edges new node (get_or ends at none).edge → Looked edges n old new ends start (at + 1) node
looked_more edges n old now new ends start at node none looked reached later within is followed = record {
  reached = reached;
  later = later_later old now new looked.later later;
  order = omega (arith, looked.order);
  passed = λ k d low high. elim (cases_eq k at) [
    | inl same ↦ (
        let e : get_or ends at none ≡ get_or ends k d = ap (λ j. get_or ends j none) (sym same) ∙ get_or_default ends k none d (omega arith) in
        (ap (λ (x : End). x.node) (sym e) ∙ is, subst (λ (x : End). IsFollowed edges new node x.edge) e followed))
    | inr other ↦ (
        let before = looked.passed k d low (omega (arith, high, other)) in
        (before.0, followed_later edges now new node (get_or ends k d).edge later before.1))
  ];
}

tail_or_head : (e : Edge) → (leaves e ≡ e.tail) ⊎ (leaves e ≡ e.head)
tail_or_head e = by_test (ltb 0 e.under)
  where
    by_test : (b : Bool) → (cond b e.tail e.head ≡ e.tail) ⊎ (cond b e.tail e.head ≡ e.head)
    by_test true = inl refl
    by_test false = inr refl

-- the end from which an edge may be pushed stands among the ends
end_of : (edges : List Edge) (n : ℕ) (a : Adjacency) (b : ℕ) (d : Edge) (none : End) → IsAdjacency n a edges → b < length edges → 0 < gap_of (get_or edges b d)
    → (k : ℕ) × (k < length a.ends.items) × ((get_or a.ends.items k none).node ≡ leaves (get_or edges b d)) × ((get_or a.ends.items k none).edge ≡ b)
end_of edges n a b d none adjacent within off = elim (tail_or_head (get_or edges b d)) [
  | inl tail ↦ (
      let (k, inside, is) = adjacent.tails b d none within off in
      (k, inside, ap (λ (x : End). x.node) is ∙ sym tail, ap (λ (x : End). x.edge) is))
  | inr head ↦ (
      let (k, inside, is) = adjacent.heads b d none within off in
      (k, inside, ap (λ (x : End). x.node) is ∙ sym head, ap (λ (x : End). x.edge) is))
]

-- there are no further ends of the node from this place on
abbrev pub Stops : List End → ℕ → ℕ → End → Type 0
Stops ends at node none = (length ends ≤ at) ⊎ ((at < length ends) × ((get_or ends at none).node ≡ node → ⊥))

before_stop : (n k at node : ℕ) (a : Adjacency) (edges : List Edge) (none : End) → IsAdjacency n a edges → node < n → get_or a.first.items node 0 ≤ at → Stops a.ends.items at node none
    → k < length a.ends.items → (get_or a.ends.items k none).node ≡ node → k < at
before_stop n k at node a edges none adjacent inside order stops within is = elim (cases_lt k at) [
  | inl less ↦ less
  | inr more ↦ elim stops [
    | inl ended ↦ absurd (omega (arith, ended, more, within))
    | inr (here, other) ↦ (
        let low = adjacent.after node at none inside order here in
        let high = adjacent.order at k none more within in
        absurd (other (omega (arith, low, high, is))))
  ]
]

-- where the scan has stopped, all edges that may be pushed from the node are followed
pub looked_all : (edges : List Edge) (n : ℕ) (old now : Search) (a : Adjacency) (at node : ℕ) (none : End) → IsAdjacency n a edges → node < n
    → Looked edges n old now a.ends.items (get_or a.first.items node 0) at node → Stops a.ends.items at node none → (b : ℕ) → b < length edges → IsFollowed edges now node b
looked_all edges n old now a at node none adjacent inside looked stops b within d off from =
    let (k, here, at_node, is_edge) = end_of edges n a b d none adjacent within off in
    let is_node : (get_or a.ends.items k none).node ≡ node = at_node ∙ from in
    let start : get_or a.first.items node 0 ≤ k = elim (cases_lt k (get_or a.first.items node 0)) [
      | inl less ↦ (let low = adjacent.before node k none inside less here in absurd (omega (arith, low, is_node)))
      | inr more ↦ more
    ] in
    let passed = looked.passed k none start (before_stop n k at node a edges none adjacent inside looked.order stops here is_node) in
    subst (λ (j : ℕ). IsFollowed edges now node j) is_edge passed.1 d off from
