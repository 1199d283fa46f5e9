-- The search, node by node.
use Rattle.std.proofs.Common.{◌≡◌, ℕ, ◌+◌, ◌<◌, ◌≤◌, Bool, true, false, cond, ltb, List, length, get_or, ap, sym, ◌∙◌, inl, inr, arith, All}
use Rattle.std.proofs.lemmas.Bool.{cases_eq}
use Rattle.bounded_flow.specs.declared.edge.Edge.{Edge}
use Rattle.bounded_flow.specs.declared.search.Search.{Search}
use Rattle.bounded_flow.specs.Edges.{enters, leaves}
use Rattle.bounded_flow.specs.Flows.{IsInside}
use Rattle.bounded_flow.specs.Searches.{Reached, IsLater, IsFollowed, IsExplored}

-- so many nodes have been taken off the queue, and all edges that may be pushed from them are followed
pub record Explored (edges : List Edge) (n from : ℕ) (now : Search) (taken : ℕ) : Type 0 where
  pub reached : Reached edges n now
  pub first : get_or now.place.items from 0 ≡ 0
  pub one : 1 ≤ now.seen
  pub few : taken ≤ now.seen
  pub explored : IsExplored edges now taken

-- the nodes that a push leaves and enters are nodes
pub leaves_within : (n : ℕ) (e : Edge) → IsInside n e → leaves e < n
leaves_within n e h = by_test (ltb 0 e.under)
  where
    by_test : (b : Bool) → cond b e.tail e.head < n
    by_test true = h.0
    by_test false = h.1

pub enters_within : (n : ℕ) (e : Edge) → IsInside n e → enters e < n
enters_within n e h = by_test (ltb 0 e.under)
  where
    by_test : (b : Bool) → cond b e.head e.tail < n
    by_test true = h.1
    by_test false = h.0

-- what has an early place now had it before
place_before : (edges : List Edge) (n u : ℕ) (now new : Search) → Reached edges n now → Reached edges n new → IsLater now new → u < n → get_or new.place.items u 0 < now.seen
    → (get_or now.place.items u 0 ≡ get_or new.place.items u 0) × (get_or now.place.items u 0 < now.seen)
place_before edges n u now new a b later inside early =
    let k : ℕ = get_or new.place.items u 0 in
    let v : ℕ = get_or now.queue.items k 0 in
    let (known, place_v) = a.marked.queued k early in
    let new_v : get_or new.place.items v 0 ≡ k = later.places v (omega (arith, place_v, early)) ∙ place_v in
    let u_is : get_or new.queue.items k 0 ≡ u = elim (b.marked.marked u inside) [
      | inl h ↦ h.1
      | inr h ↦ absurd (omega (arith, h, early, a.marked.seen_few))
    ] in
    let v_is : get_or new.queue.items k 0 ≡ v = elim (b.marked.marked v known) [
      | inl h ↦ ap (λ j. get_or new.queue.items j 0) (sym new_v) ∙ h.1
      | inr h ↦ absurd (omega (arith, h, new_v, early, a.marked.seen_few))
    ] in
    let same : u ≡ v = sym u_is ∙ v_is in
    let is : get_or now.place.items u 0 ≡ k = ap (λ j. get_or now.place.items j 0) same ∙ place_v in
    (is, omega (arith, is, early))

-- one more node is taken off the queue
pub explored_more : (edges : List Edge) (n from taken node : ℕ) (now new : Search) → All (IsInside n) edges → Explored edges n from now taken → taken < now.seen → node ≡ get_or now.queue.items taken 0
    → Reached edges n new → IsLater now new → ((b : ℕ) → b < length edges → IsFollowed edges new node b) → Explored edges n from new (taken + 1)
explored_more edges n from taken node now new inside explored more node_is reached later followed = record {
  reached = reached;
  first = later.places from (omega (arith, explored.first, explored.one)) ∙ explored.first;
  one = omega (arith, explored.one, later.seen);
  few = omega (arith, more, later.seen);
  explored = λ b d within off early.
      let u : ℕ = leaves (get_or edges b d) in
      let low : u < n = leaves_within n (get_or edges b d) (inside b d within) in
      let (same, was) = place_before edges n u now new explored.reached reached later low (omega (arith, early, more)) in
      elim (cases_eq (get_or now.place.items u 0) taken) [
        | inl here ↦ (
            let u_is : get_or now.queue.items (get_or now.place.items u 0) 0 ≡ u = elim (explored.reached.marked.marked u low) [
              | inl h ↦ h.1
              | inr h ↦ absurd (omega (arith, h, was, explored.reached.marked.seen_few))
            ] in
            let from_node : u ≡ node = sym u_is ∙ ap (λ j. get_or now.queue.items j 0) here ∙ sym node_is in
            followed b within d off from_node)
        | inr other ↦ (
            let before = explored.explored b d within off (omega (arith, same, early, other)) in
            omega (arith, later.places (enters (get_or edges b d)) before, before, later.seen))
      ];
}

-- nothing is taken off the queue of a search that has just begun
pub explored_none : (edges : List Edge) (n from : ℕ) (now : Search) → Reached edges n now → now.seen ≡ 1 → get_or now.place.items from 0 ≡ 0 → Explored edges n from now 0
explored_none edges n from now reached seen first = record {
  reached = reached;
  first = first;
  one = omega (arith, seen);
  few = omega arith;
  explored = λ b d within off early. absurd (omega (arith, early));
}
