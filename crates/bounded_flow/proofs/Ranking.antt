-- The gaps of edges as the keys of a queue, and how many edges are to be repaired.
use Rattle.std.proofs.Common.{◌≡◌, ℕ, zero, suc, ◌+◌, ◌^◌, ◌<◌, ◌≤◌, ◌⊎◌, Bool, true, false, cond, ltb, List, [], ◌∷◌, length, get_or, refl, ap, sym, ◌∙◌, inl, inr, arith, All}
use Rattle.std.specs.Prelude.{Any}
use Rattle.std.proofs.Math.ListN.{set}
use Rattle.std.proofs.lemmas.Bool.{cases_eq, lt-ltb, le-ltb, ltb-true}
use Rattle.std.proofs.lemmas.List.{get_or_default, get_or-set_other, get_or-set_same, length-set}
use Rattle.key_queue.specs.declared.key.Falling.{Falling}
use Rattle.bounded_flow.specs.declared.edge.Edge.{Edge}
use Rattle.bounded_flow.specs.Edges.{gap_of, IsSound}
use Rattle.bounded_flow.specs.Ranks.{IsRanked}

-- how many gaps aren't below the weight left
pub wide : ℕ → List Edge → ℕ
wide left [] = 0
wide left (e ∷ es) = cond (ltb (gap_of e) left) 0 1 + wide left es

one_le : (p q : Bool) → (p ≡ true → q ≡ true) → cond q 0 1 ≤ cond p 0 1
one_le true q h = rw (h refl) (omega arith)
one_le false true h = omega arith
one_le false false h = omega arith

first_le : (left : ℕ) (a b : Edge) → (gap_of a < left → gap_of b < left) → cond (ltb (gap_of b) left) 0 1 ≤ cond (ltb (gap_of a) left) 0 1
first_le left a b calm = one_le (ltb (gap_of a) left) (ltb (gap_of b) left) (λ e. lt-ltb (gap_of b) left (calm (ltb-true (gap_of a) left e)))

-- where gaps below the weight left stay below it, no more are wide
pub fewer_wide : (left : ℕ) (old new : List Edge) → length new ≡ length old → ((k : ℕ) (d : Edge) → k < length old → gap_of (get_or old k d) < left → gap_of (get_or new k d) < left) → wide left new ≤ wide left old
unfolding wide
fewer_wide left [] [] many calm = omega arith
fewer_wide left [] (b ∷ new) many calm = absurd (omega (arith, many))
fewer_wide left (a ∷ old) [] many calm = absurd (omega (arith, many))
fewer_wide left (a ∷ old) (b ∷ new) many calm =
    let first = first_le left a b (calm 0 a (omega arith)) in
    let rest = fewer_wide left old new (omega (arith, many)) (λ k d lt low. calm (suc k) d (omega (arith, lt)) low) in
    omega (arith, first, rest)

-- and where one that was wide isn't any more, fewer are
pub wide_falls : (left : ℕ) (old new : List Edge) (i : ℕ) (f : Edge) → length new ≡ length old → ((k : ℕ) (d : Edge) → k < length old → gap_of (get_or old k d) < left → gap_of (get_or new k d) < left)
    → i < length old → left ≤ gap_of (get_or old i f) → gap_of (get_or new i f) < left → wide left new < wide left old
unfolding wide
wide_falls left [] new i f many calm known was now = absurd (omega (arith, known))
wide_falls left (a ∷ old) [] i f many calm known was now = absurd (omega (arith, many))
wide_falls left (a ∷ old) (b ∷ new) zero f many calm known was now =
    let rest = fewer_wide left old new (omega (arith, many)) (λ k d lt low. calm (suc k) d (omega (arith, lt)) low) in
    rw (le-ltb (gap_of a) left was, lt-ltb (gap_of b) left now) (omega (arith, rest))
wide_falls left (a ∷ old) (b ∷ new) (suc i) f many calm known was now =
    let first = first_le left a b (calm 0 a (omega arith)) in
    let rest = wide_falls left old new i f (omega (arith, many)) (λ k d lt low. calm (suc k) d (omega (arith, lt)) low) (omega (arith, known)) was now in
    omega (arith, first, rest)

-- an edge and its key change together
pub ranked_set : (edges : List Edge) (keys : List Falling) (b : ℕ) (e' : Edge) (key : Falling) → IsRanked edges keys → key.0 ≡ gap_of e' → b < length edges → IsRanked (set edges b e') (set keys b key)
ranked_set edges keys b e' key ranked is known =
    let within : b < length keys = (let m = ranked.many in omega (arith, m, known)) in
    record {
      many = length-set keys b key ∙ ranked.many ∙ sym (length-set edges b e');
      same = λ k d f lt. elim (cases_eq k b) [
        | inl here ↦ (
            let now : get_or (set keys b key) k f ≡ key = ap (λ j. get_or (set keys b key) j f) here ∙ get_or-set_same keys b key f within in
            let edge : get_or (set edges b e') k d ≡ e' = ap (λ j. get_or (set edges b e') j d) here ∙ get_or-set_same edges b e' d known in
            ap (λ (x : Falling). x.0) now ∙ is ∙ ap gap_of (sym edge))
        | inr other ↦ (
            let inside : k < length edges = (let m = length-set edges b e' in omega (arith, m, lt)) in
            ap (λ (x : Falling). x.0) (get_or-set_other keys b k key f other) ∙ ranked.same k d f inside ∙ ap gap_of (sym (get_or-set_other edges b k e' d other)))
      ];
    }

-- a gap is small
pub gap_small : (left : ℕ) (e : Edge) → IsSound left e → left ≤ 2 ^ 116 → gap_of e < 2 ^ 128
gap_small left e sound limit = elim sound.one_side [
  | inl none ↦ (let over = sound.over_left in omega (arith, none, over, limit))
  | inr none ↦ (let few = sound.rest_few in omega (arith, none, few, limit))
]

module _ (edges : List Edge) (keys : List Falling) (ranked : IsRanked edges keys) where
  -- where the first key is below the weight left, all gaps are
  pub all_below : (left t : ℕ) → t < length keys → ((d : Falling) (j : ℕ) → j < length keys → (get_or keys j d).0 ≤ (get_or keys t d).0) → ((d : Falling) → (get_or keys t d).0 < left) → All (λ e. gap_of e < left) edges
  all_below left t known first low k d lt =
      let m = ranked.many in
      let none : Falling = record { 0 = 0 } in
      let is = ranked.same k d none lt in
      let le = first none k (omega (arith, m, lt)) in
      let less = low none in
      omega (arith, is, le, less)

  pub most_of_keys : (g : ℕ) → All (λ (x : Falling). x.0 ≤ g) keys → All (λ e. gap_of e ≤ g) edges
  most_of_keys g most k d lt =
      let m = ranked.many in
      let none : Falling = record { 0 = 0 } in
      let is = ranked.same k d none lt in
      let le = most k none (omega (arith, m, lt)) in
      omega (arith, is, le)

  pub some_of_keys : (g : ℕ) → (g ≡ 0) ⊎ Any (λ (x : Falling). x.0 ≡ g) keys → (g ≡ 0) ⊎ Any (λ e. gap_of e ≡ g) edges
  some_of_keys g (inl none) = inl none
  some_of_keys g (inr (k, x, h, at, is)) =
      let m = ranked.many in
      let nothing : Edge = record { tail = 0; head = 0; whole = 0; under = 0; over = 0 } in
      let lt : k < length edges = omega (arith, m, h) in
      let gap = sym (ranked.same k nothing x lt) ∙ ap (λ (y : Falling). y.0) at ∙ is in
      inr (k, get_or edges k nothing, lt, get_or_default edges k (get_or edges k nothing) nothing lt, gap)

-- the keys of the first edges, so many
pub record IsRankedBefore (edges : List Edge) (keys : List Falling) (i : ℕ) : Type 0 where
  pub many : length keys ≡ length edges
  pub same : (k : ℕ) (d : Edge) (f : Falling) → k < i → (get_or keys k f).0 ≡ gap_of (get_or edges k d)

-- one more key
pub ranked_next : (edges : List Edge) (keys : List Falling) (i : ℕ) (e : Edge) (key : Falling) → IsRankedBefore edges keys i → i < length edges → e ≡ get_or edges i e → key.0 ≡ gap_of e → IsRankedBefore edges (set keys i key) (i + 1)
ranked_next edges keys i e key ranked lt here is =
    let within : i < length keys = (let m = ranked.many in omega (arith, m, lt)) in
    record {
      many = length-set keys i key ∙ ranked.many;
      same = λ k d f less. elim (cases_eq k i) [
        | inl at ↦ (
            let now : get_or (set keys i key) k f ≡ key = ap (λ j. get_or (set keys i key) j f) at ∙ get_or-set_same keys i key f within in
            let edge : get_or edges k d ≡ e = ap (λ j. get_or edges j d) at ∙ get_or_default edges i d e lt ∙ sym here in
            ap (λ (x : Falling). x.0) now ∙ is ∙ ap gap_of (sym edge))
        | inr other ↦ ap (λ (x : Falling). x.0) (get_or-set_other keys i k key f other) ∙ ranked.same k d f (omega (arith, less, other))
      ];
    }

pub ranked_all : (edges : List Edge) (keys : List Falling) (i : ℕ) → IsRankedBefore edges keys i → length edges ≤ i → IsRanked edges keys
ranked_all edges keys i ranked all = record { many = ranked.many; same = λ k d f lt. ranked.same k d f (omega (arith, lt, all)) }
