-- One node more is seen: the ways so far stay ways.
use Rattle.std.proofs.Common.{◌≡◌, ℕ, ◌+◌, ◌<◌, ◌≤◌, List, length, get_or, ap, sym, subst, inl, inr, arith}
use Rattle.std.proofs.Math.ListN.{set}
use Rattle.std.proofs.lemmas.Bool.{cases_eq}
use Rattle.std.proofs.lemmas.List.{get_or-set_other, get_or-set_same}
use Rattle.bounded_flow.specs.declared.edge.Edge.{Edge}
use Rattle.bounded_flow.specs.declared.search.Search.{Search}
use Rattle.bounded_flow.specs.Edges.{gap_of, enters, leaves, Leads}
use Rattle.bounded_flow.specs.Searches.{HasRoom, Marked, IsWay, Reached}

-- a node that isn't seen has the place n
pub unseen_place : (n v : ℕ) (place queue : List ℕ) (seen : ℕ) → Marked n place queue seen → v < n → (get_or place v 0 < seen → ⊥) → get_or place v 0 ≡ n
unseen_place n v place queue seen marked inside new = elim (marked.marked v inside) [
  | inl h ↦ absurd (new h.0)
  | inr e ↦ e
]

-- edge b is a way to node v
record IsWayBy (edges : List Edge) (n : ℕ) (place : List ℕ) (v b : ℕ) : Type 0 where
  inside : b < length edges
  off : (d : Edge) → 0 < gap_of (get_or edges b d)
  enters_it : (d : Edge) → enters (get_or edges b d) ≡ v
  in_place : (d : Edge) → leaves (get_or edges b d) < n
  earlier : (d : Edge) → get_or place (leaves (get_or edges b d)) 0 < get_or place v 0

way_by : (edges : List Edge) (n : ℕ) (place way : List ℕ) (v b : ℕ) → get_or way v 0 ≡ b → IsWayBy edges n place v b → IsWay edges n place way v
way_by edges n place way v b e w =
    let x : IsWayBy edges n place v (get_or way v 0) = subst (IsWayBy edges n place v) (sym e) w in
    record { inside = x.inside; off = x.off; enters_it = x.enters_it; in_place = x.in_place; earlier = x.earlier }

-- the new node has its way
new_way : (edges : List Edge) (n : ℕ) (place way : List ℕ) (seen from v b : ℕ) → length place ≡ n → length way ≡ n → seen ≤ n → v < n → get_or place v 0 ≡ n → get_or place from 0 < seen → from < n
    → b < length edges → ((d : Edge) → Leads (get_or edges b d) from v) → IsWay edges n (set place v seen) (set way v b) v
new_way edges n place way seen from v b places ways few inside unseen earlier within known leads =
    let p : get_or (set place v seen) v 0 ≡ seen = get_or-set_same place v seen 0 (omega arith) in
    let other : from ≡ v → ⊥ = λ e. (let same : get_or place from 0 ≡ get_or place v 0 = ap (λ t. get_or place t 0) e in omega (arith, same, unseen, earlier, few)) in
    let q : get_or (set place v seen) from 0 ≡ get_or place from 0 = get_or-set_other place v from seen 0 other in
    way_by edges n (set place v seen) (set way v b) v b (get_or-set_same way v b 0 (omega arith)) (record {
      inside = known;
      off = λ d. (leads d).0;
      enters_it = λ d. (leads d).2;
      in_place = λ d. subst (λ (t : ℕ). t < n) (sym (leads d).1) within;
      earlier = λ d. (let e : get_or (set place v seen) (leaves (get_or edges b d)) 0 ≡ get_or (set place v seen) from 0 = ap (λ t. get_or (set place v seen) t 0) (leads d).1 in omega (arith, e, q, p, earlier));
    })

-- and the ways of the other nodes stay
old_way : (edges : List Edge) (n : ℕ) (place way : List ℕ) (seen u v b : ℕ) → seen ≤ n → get_or place v 0 ≡ n → get_or place u 0 < seen → (u ≡ v → ⊥)
    → IsWay edges n place way u → IsWay edges n (set place v seen) (set way v b) u
old_way edges n place way seen u v b few unseen was other w =
    let p : get_or (set place v seen) u 0 ≡ get_or place u 0 = get_or-set_other place v u seen 0 other in
    way_by edges n (set place v seen) (set way v b) u (get_or way u 0) (get_or-set_other way v u b 0 other) (record {
      inside = w.inside;
      off = w.off;
      enters_it = w.enters_it;
      in_place = w.in_place;
      earlier = λ d.
          let t : ℕ = leaves (get_or edges (get_or way u 0) d) in
          let less : get_or place t 0 < get_or place u 0 = w.earlier d in
          let far : t ≡ v → ⊥ = λ e. (let same : get_or place t 0 ≡ get_or place v 0 = ap (λ z. get_or place z 0) e in omega (arith, same, unseen, less, was, few)) in
          let q : get_or (set place v seen) t 0 ≡ get_or place t 0 = get_or-set_other place v t seen 0 far in
          omega (arith, p, q, less);
    })

-- each seen node but the one with place 0 has its way
abbrev HaveWays : List Edge → ℕ → ℕ → List ℕ → List ℕ → Type 0
HaveWays edges n seen place way = (v : ℕ) → v < n → 0 < get_or place v 0 → get_or place v 0 < seen → IsWay edges n place way v

-- one more node is seen over an edge that leads to it from a seen node
pub reached_more : (edges : List Edge) (n from v b : ℕ) (old new : Search) → Reached edges n old → HasRoom n new → Marked n new.place.items new.queue.items new.seen → new.seen ≡ old.seen + 1
    → new.place.items ≡ set old.place.items v old.seen → new.way.items ≡ set old.way.items v b → v < n → get_or old.place.items v 0 ≡ n → get_or old.place.items from 0 < old.seen → from < n
    → b < length edges → ((d : Edge) → Leads (get_or edges b d) from v) → Reached edges n new
reached_more edges n from v b old new reached room marked seen places ways inside unseen earlier within known leads =
    let place = old.place.items in
    let way = old.way.items in
    let have : HaveWays edges n (old.seen + 1) (set place v old.seen) (set way v b) = λ u lu pos was. elim (cases_eq u v) [
      | inl same ↦ (
          let w = new_way edges n place way old.seen from v b reached.room.places reached.room.ways reached.marked.seen_few inside unseen earlier within known leads in
          subst (λ (t : ℕ). IsWay edges n (set place v old.seen) (set way v b) t) (sym same) w)
      | inr other ↦ (
          let p : get_or (set place v old.seen) u 0 ≡ get_or place u 0 = get_or-set_other place v u old.seen 0 other in
          let low : get_or place u 0 < old.seen = elim (reached.marked.marked u lu) [
            | inl h ↦ h.0
            | inr h ↦ absurd (omega (arith, h, p, was, marked.seen_few, seen))
          ] in
          old_way edges n place way old.seen u v b reached.marked.seen_few unseen low other (reached.ways u lu (omega (arith, p, pos)) low))
    ] in
    record {
      room = room;
      marked = marked;
      ways = subst (λ (k : ℕ). HaveWays edges n k new.place.items new.way.items) (sym seen)
          (subst (λ (p : List ℕ). HaveWays edges n (old.seen + 1) p new.way.items) (sym places)
          (subst (λ (w : List ℕ). HaveWays edges n (old.seen + 1) (set place v old.seen) w) (sym ways) have));
    }
