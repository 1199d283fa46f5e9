-- The ends of edges in order of their nodes.
use Rattle.std.proofs.Common.{Ordering, ◌≡◌, ℕ, ◌+◌, ◌<◌, ◌≤◌, ◌∙◌, List, [], ◌∷◌, ◌++◌, length, map, get_or, true, false, ltb, inl, inr, ap, sym, subst, refl, arith}
use Rattle.std.specs.List.{Contains}
use Rattle.std.specs.List.Sorted.{IsPermutation, IsNonDecreasingBy, IsPartitionPoint}
use Rattle.std.proofs.lemmas.Bool.{ltb-true, ltb-false, lt-ltb, true≢false, cases_eq, cases_lt}
use Rattle.std.proofs.lemmas.List.{get_or_push, get_or_append_left, get_or-map, length_push, get_or_default}
use Rattle.std.proofs.lemmas.List.Sorted.{All-permutation, Contains-permutation}
use Rattle.std.proofs.lemmas.List.Elements.{All-push, All-weaker, Contains-append_left, Contains-push}
use Rattle.std.specs.declared.cmp.Ordering.TheVariants.{Less}
use Rattle.std.specs.Ordering.{is_lt, nat_cmp, ordering_then}
use Rattle.bounded_flow.specs.declared.edge.Edge.{Edge}
use Rattle.bounded_flow.specs.declared.search.End.{End}
use Rattle.bounded_flow.specs.declared.search.Adjacency.{Adjacency}
use Rattle.bounded_flow.specs.Edges.{gap_of, wire}
use Rattle.bounded_flow.specs.Searches.{IsAdjacency}
use Rattle.bounded_flow.specs.Loads.{AreEnds, AreFirsts}
use Rattle.bounded_flow.proofs.Balances.{wires_many}

-- what holds of each number below b and of b holds of each below b + 1
below_or_here : (P : ℕ → Type 0) (b : ℕ) → ((k : ℕ) → k < b → P k) → P b → (k : ℕ) → k < b + 1 → P k
below_or_here P b below here k h = elim (cases_lt k b) [
  | inl l ↦ below k l
  | inr l ↦ (let same : b ≡ k = omega arith in subst P same here)
]

-- the two ends of one edge more
pub ends_more : (edges : List Edge) (b : ℕ) (ends : List End) (d : Edge) → b < length edges → AreEnds edges b ends
    → AreEnds edges (b + 1) ((ends ++ record { node = (get_or edges b d).tail; edge = b } ∷ []) ++ record { node = (get_or edges b d).head; edge = b } ∷ [])
ends_more edges b ends d within h =
    let t : End = record { node = (get_or edges b d).tail; edge = b } in
    let u : End = record { node = (get_or edges b d).head; edge = b } in
    let at : (e : Edge) → get_or edges b e ≡ get_or edges b d = λ e. get_or_default edges b e d within in
    let more : List End = ends ++ t ∷ [] in
    record {
      known = (let P : End → Type 0 = λ e. e.edge < b + 1 in
          All-push P more u (All-push P ends t (All-weaker (λ e. e.edge < b) P (λ e l. omega arith) ends h.known) (omega arith)) (omega arith));
      tails = λ k e l off. below_or_here (λ (k : ℕ). 0 < gap_of (get_or edges k e) → Contains (more ++ u ∷ []) (record { node = (get_or edges k e).tail; edge = k })) b
          (λ k l off. Contains-append_left more (u ∷ []) (record { node = (get_or edges k e).tail; edge = k }) (Contains-append_left ends (t ∷ []) (record { node = (get_or edges k e).tail; edge = k }) (h.tails k e l off)))
          (λ off. subst (λ (x : Edge). Contains (more ++ u ∷ []) (record { node = x.tail; edge = b })) (sym (at e)) (Contains-append_left more (u ∷ []) t (Contains-push ends t)))
          k l off;
      heads = λ k e l off. below_or_here (λ (k : ℕ). 0 < gap_of (get_or edges k e) → Contains (more ++ u ∷ []) (record { node = (get_or edges k e).head; edge = k })) b
          (λ k l off. Contains-append_left more (u ∷ []) (record { node = (get_or edges k e).head; edge = k }) (Contains-append_left ends (t ∷ []) (record { node = (get_or edges k e).head; edge = k }) (h.heads k e l off)))
          (λ off. subst (λ (x : Edge). Contains (more ++ u ∷ []) (record { node = x.head; edge = b })) (sym (at e)) (Contains-push more u))
          k l off;
    }

-- one edge more that has no gap
pub ends_same : (edges : List Edge) (b : ℕ) (ends : List End) (d : Edge) → b < length edges → gap_of (get_or edges b d) ≡ 0 → AreEnds edges b ends → AreEnds edges (b + 1) ends
ends_same edges b ends d within even h =
    let none : (e : Edge) → 0 < gap_of (get_or edges b e) → ⊥ = λ e off. (let is = ap gap_of (get_or_default edges b e d within) in absurd (omega (arith, is, off, even))) in
    record {
      known = All-weaker (λ e. e.edge < b) (λ (e : End). e.edge < b + 1) (λ e l. omega arith) ends h.known;
      tails = λ k e l. below_or_here (λ (k : ℕ). 0 < gap_of (get_or edges k e) → Contains ends (record { node = (get_or edges k e).tail; edge = k })) b (λ k l. h.tails k e l) (λ off. absurd (none e off)) k l;
      heads = λ k e l. below_or_here (λ (k : ℕ). 0 < gap_of (get_or edges k e) → Contains ends (record { node = (get_or edges k e).head; edge = k })) b (λ k l. h.heads k e l) (λ off. absurd (none e off)) k l;
    }

-- one node's first place more
pub firsts_more : (n : ℕ) (ends : List End) (first : List ℕ) (place : ℕ) → AreFirsts n ends first
    → IsPartitionPoint (λ e. ltb e.node n ≡ true) (λ e. ltb e.node n ≡ false) ends place → AreFirsts (n + 1) ends (first ++ place ∷ [])
firsts_more n ends first place h point =
    let here : get_or (first ++ place ∷ []) n 0 ≡ place = get_or_push first place 0 n h.many in
    let old : (v : ℕ) → v < n → get_or (first ++ place ∷ []) v 0 ≡ get_or first v 0 = λ v l. get_or_append_left first (place ∷ []) 0 v (let m = h.many in omega arith) in
    record {
      many = length_push first place ∙ ap (λ k. k + 1) h.many;
      before = λ v k d l. below_or_here (λ v. k < get_or (first ++ place ∷ []) v 0 → k < length ends → (get_or ends k d).node < v) n
          (λ v l m. h.before v k d l (let e = old v l in omega arith))
          (λ m inside. ltb-true (get_or ends k d).node n (point.0 k d (omega arith) (omega arith))) v l;
      after = λ v k d l. below_or_here (λ v. get_or (first ++ place ∷ []) v 0 ≤ k → k < length ends → v ≤ (get_or ends k d).node) n
          (λ v l m. h.after v k d l (let e = old v l in omega arith))
          (λ m inside. ltb-false (get_or ends k d).node n (point.1 k d (omega arith) inside)) v l;
    }

-- of two ends in order by node and then edge, the later node isn't smaller
pub no_less_node : (a b : ℕ) (o : Ordering) → is_lt (ordering_then (nat_cmp a b) o) ≡ false → b ≤ a
no_less_node a b o h = elim (cases_lt a b) [
  | inl l ↦ (
      let less : nat_cmp a b ≡ Less = rw (lt-ltb a b l) refl in
      let P : Ordering → Type 0 = λ x. is_lt (ordering_then x o) ≡ false in
      let wrong : true ≡ false = subst P less h in
      absurd (true≢false wrong))
  | inr l ↦ l
]

-- sorted ends and the first place of each node
pub adjacency_made : (n : ℕ) (edges : List Edge) (ends : List End) (a : Adjacency) → AreEnds edges (length edges) ends → IsPermutation ends a.ends.items
    → IsNonDecreasingBy (λ e. e.node) a.ends.items → AreFirsts n a.ends.items a.first.items → IsAdjacency n a edges
adjacency_made n edges ends a h moved order first =
    let found : (x : End) → Contains ends x → (d : End) → (k : ℕ) × (k < length a.ends.items) × (get_or a.ends.items k d ≡ x) = λ x c d. (
    let (k, l, e) = Contains-permutation ends a.ends.items x moved c in
    (k, l, get_or_default a.ends.items k d x l ∙ e)) in
    record {
      firsts = first.many;
      known = λ k d l. All-permutation (λ (e : End). e.edge < length edges) ends a.ends.items moved h.known k d l;
      tails = λ b e d l off. found (record { node = (get_or edges b e).tail; edge = b }) (h.tails b e l off) d;
      heads = λ b e d l off. found (record { node = (get_or edges b e).head; edge = b }) (h.heads b e l off) d;
      order = λ j k d. order j k d;
      before = first.before;
      after = first.after;
    }

-- it serves edges with the same ends, where those that had no gap have none
pub adjacency_later : (n : ℕ) (old new : List Edge) (a : Adjacency) → map wire new ≡ map wire old → ((b : ℕ) (d : Edge) → b < length old → gap_of (get_or old b d) ≡ 0 → gap_of (get_or new b d) ≡ 0) → IsAdjacency n a old → IsAdjacency n a new
adjacency_later n old new a wires even adjacent =
    let many : length new ≡ length old = wires_many new old wires in
    let off_before : (b : ℕ) (d : Edge) → b < length new → 0 < gap_of (get_or new b d) → 0 < gap_of (get_or old b d) = λ b d l off. elim (cases_eq (gap_of (get_or old b d)) 0) [
      | inl none ↦ (let e = even b d (omega (arith, l, many)) none in absurd (omega (arith, e, off)))
      | inr some ↦ omega (arith, some)
    ] in
    let same : (b : ℕ) (d : Edge) → b < length new → wire (get_or new b d) ≡ wire (get_or old b d) = λ b d l.
    sym (get_or-map wire new b d (0, 0) l) ∙ ap (λ ws. get_or ws b (0, 0)) wires ∙ get_or-map wire old b d (0, 0) (omega (arith, l, many)) in
    record {
      firsts = adjacent.firsts;
      known = λ k d l. (let h = adjacent.known k d l in omega (arith, h, many));
      tails = λ b e d l off. (
          let (k, inside, is) = adjacent.tails b e d (omega (arith, l, many)) (off_before b e l off) in
          (k, inside, is ∙ ap (λ (v : ℕ). record { node = v; edge = b }) (sym (ap (λ (w : ℕ × ℕ). w.0) (same b e l)))));
      heads = λ b e d l off. (
          let (k, inside, is) = adjacent.heads b e d (omega (arith, l, many)) (off_before b e l off) in
          (k, inside, is ∙ ap (λ (v : ℕ). record { node = v; edge = b }) (sym (ap (λ (w : ℕ × ℕ). w.1) (same b e l)))));
      order = adjacent.order;
      before = adjacent.before;
      after = adjacent.after;
    }
