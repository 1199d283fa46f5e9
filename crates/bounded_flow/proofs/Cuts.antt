-- The cut argument: over nodes that no push leaves, no edge that is off comes in.
use Rattle.std.proofs.Common.{◌≡◌, ℕ, ◌+◌, ◌*◌, ◌<◌, ◌≤◌, ◌⊎◌, Bool, true, false, List, refl, arith, ap, sym, ◌∙◌, cond, length, get_or, All}
use Rattle.std.specs.Prelude.{sum_by}
use Rattle.definitions.proofs.Sums.{sum_same, sum_of_sums, sum_scaled}
use Rattle.rounding_laws.proofs.Falls.{sum_less_at}
use Rattle.bounded_flow.specs.declared.edge.Edge.{Edge}
use Rattle.bounded_flow.specs.Edges.{rest_of}
use Rattle.bounded_flow.specs.Flows.{Balanced, IsInside}
use Rattle.bounded_flow.proofs.Ends.{reached_ends}

-- one edge: the remainder is y, the weight left times the whole units m; r and s say whether tail and head are reached
cut_edge : (r s : Bool) (y m : ℕ) → (m < y → r ≡ true → s ≡ true) → (y < m → s ≡ true → r ≡ true) → cond r y 0 + cond s m 0 ≤ cond s y 0 + cond r m 0
cut_edge true true y m c d = omega arith
cut_edge false false y m c d = omega arith
cut_edge true false y m c d = grind arith
cut_edge false true y m c d = grind arith

-- the edge brings a unit into the reached nodes from outside
abbrev pub Comes : Bool → Bool → ℕ → ℕ → Type 0
Comes r s y m = ((m < y) × (s ≡ true) × (r ≡ false)) ⊎ ((y < m) × (r ≡ true) × (s ≡ false))

cut_edge_strict : (r s : Bool) (y m : ℕ) → (m < y → r ≡ true → s ≡ true) → (y < m → s ≡ true → r ≡ true) → Comes r s y m → cond r y 0 + cond s m 0 < cond s y 0 + cond r m 0
cut_edge_strict true true y m c d h = grind arith
cut_edge_strict false false y m c d h = grind arith
cut_edge_strict true false y m c d h = grind arith
cut_edge_strict false true y m c d h = grind arith

-- where the edge may be pushed from a reached node, it leads to a reached node
pub record Closed (left : ℕ) (r : ℕ → Bool) (e : Edge) : Type 0 where
  pub short : left * e.whole < rest_of left e → r e.tail ≡ true → r e.head ≡ true
  pub long : rest_of left e < left * e.whole → r e.head ≡ true → r e.tail ≡ true

scaled : (left : ℕ) (b : Bool) (m : ℕ) → cond b (left * m) 0 ≡ left * cond b m 0
scaled left true m = refl
scaled left false m = omega arith

-- the weight left times the whole units balances, too
whole_ends : (left n : ℕ) (r : ℕ → Bool) (edges : List Edge) → All (IsInside n) edges → Balanced (λ e. e.whole) edges n
    → sum_by (λ e. cond (r e.tail) (left * e.whole) 0) edges ≡ sum_by (λ e. cond (r e.head) (left * e.whole) 0) edges
whole_ends left n r edges inside whole =
    let tail = sum_same (λ e. cond (r e.tail) (left * e.whole) 0) (λ e. left * cond (r e.tail) e.whole 0) edges (λ e. scaled left (r e.tail) e.whole) in
    let head = sum_same (λ e. cond (r e.head) (left * e.whole) 0) (λ e. left * cond (r e.head) e.whole 0) edges (λ e. scaled left (r e.head) e.whole) in
    tail ∙ sum_scaled left (λ (e : Edge). cond (r e.tail) e.whole 0) edges
    ∙ ap (λ x. left * x) (reached_ends r n (λ e. e.whole) edges inside whole)
    ∙ sym (head ∙ sum_scaled left (λ (e : Edge). cond (r e.head) e.whole 0) edges)

-- where no edge that may be pushed leads out of the reached nodes, no edge that is off leads into them
pub closed_cut : (left n : ℕ) (r : ℕ → Bool) (edges : List Edge) → All (IsInside n) edges → Balanced (λ e. e.whole) edges n → Balanced (rest_of left) edges n → All (Closed left r) edges
    → (k : ℕ) (d : Edge) → k < length edges → Comes (r (get_or edges k d).tail) (r (get_or edges k d).head) (rest_of left (get_or edges k d)) (left * (get_or edges k d).whole) → ⊥
closed_cut left n r edges inside whole rests closed k d short comes =
    let f : Edge → ℕ = λ e. cond (r e.tail) (rest_of left e) 0 + cond (r e.head) (left * e.whole) 0 in
    let g : Edge → ℕ = λ e. cond (r e.head) (rest_of left e) 0 + cond (r e.tail) (left * e.whole) 0 in
    let small : (i : ℕ) → i < length edges → f (get_or edges i d) ≤ g (get_or edges i d) = λ i h.
    let e = get_or edges i d in
    let c = closed i d h in
    cut_edge (r e.tail) (r e.head) (rest_of left e) (left * e.whole) c.short c.long in
    let e = get_or edges k d in
    let c = closed k d short in
    let less = sum_less_at f g edges edges d d k refl small short (cut_edge_strict (r e.tail) (r e.head) (rest_of left e) (left * e.whole) c.short c.long comes) in
    let fs = sum_of_sums (λ (e : Edge). cond (r e.tail) (rest_of left e) 0) (λ e. cond (r e.head) (left * e.whole) 0) edges in
    let gs = sum_of_sums (λ (e : Edge). cond (r e.head) (rest_of left e) 0) (λ e. cond (r e.tail) (left * e.whole) 0) edges in
    let a = reached_ends r n (rest_of left) edges inside rests in
    let b = whole_ends left n r edges inside whole in
    omega (arith, less, fs, gs, a, b)
