-- A push moves the debt from the node that it enters to the node that it leaves.
use Rattle.std.proofs.Common.{◌≡◌, ℕ, ◌+◌, ◌<◌, ◌⊎◌, Bool, true, false, suc, zero, List, refl, arith, ap, sym, ◌∙◌, cond, eqb, length, get_or, map, subst, inl, inr}
use Rattle.std.proofs.Math.ListN.{set}
use Rattle.std.proofs.Math.Seq.{map-set_same}
use Rattle.std.proofs.lemmas.List.Sums.{sum_by-set}
use Rattle.std.proofs.lemmas.Bool.Decides.{nat_tests}
use Rattle.bounded_flow.specs.declared.edge.Edge.{Edge}
use Rattle.bounded_flow.specs.Edges.{rest_of, gap_of, enters, leaves, wire, IsSound, Pushed}
use Rattle.bounded_flow.specs.Flows.{out_of, into, Owes}

owes_short : (o i o' i' p node next : ℕ) → o + p ≡ i + node → o' ≡ o + next → i' ≡ i + node → o' + p ≡ i' + next
owes_short o i o' i' p node next a b c = omega arith

owes_long : (o i o' i' p node next : ℕ) → o + p ≡ i + node → o' + node ≡ o → i' + next ≡ i → o' + p ≡ i' + next
owes_long o i o' i' p node next a b c = omega arith

-- one more unit on an edge, and one less
more_val : (b : Bool) (m m' s s' : ℕ) → m' ≡ m + 1 → s' + cond b m 0 ≡ s + cond b m' 0 → s' ≡ s + cond b 1 0
more_val true m m' s s' e h = omega arith
more_val false m m' s s' e h = omega arith

less_val : (b : Bool) (m m' s s' : ℕ) → m' + 1 ≡ m → s' + cond b m 0 ≡ s + cond b m' 0 → s' + cond b 1 0 ≡ s
less_val true m m' s s' e h = omega arith
less_val false m m' s s' e h = omega arith

-- what flows out of a node and into it after the edge at b became e'
out_set : (edges : List Edge) (b v : ℕ) (d e' : Edge) → b < length edges → e'.tail ≡ (get_or edges b d).tail
    → out_of (λ e. e.whole) (set edges b e') v + cond (eqb (get_or edges b d).tail v) (get_or edges b d).whole 0 ≡ out_of (λ e. e.whole) edges v + cond (eqb (get_or edges b d).tail v) e'.whole 0
out_set edges b v d e' inside same =
    sum_by-set (λ x. cond (eqb x.tail v) x.whole 0) edges b e' d inside ∙ ap (λ t. out_of (λ e. e.whole) edges v + cond (eqb t v) e'.whole 0) same

in_set : (edges : List Edge) (b v : ℕ) (d e' : Edge) → b < length edges → e'.head ≡ (get_or edges b d).head
    → into (λ e. e.whole) (set edges b e') v + cond (eqb (get_or edges b d).head v) (get_or edges b d).whole 0 ≡ into (λ e. e.whole) edges v + cond (eqb (get_or edges b d).head v) e'.whole 0
in_set edges b v d e' inside same =
    sum_by-set (λ x. cond (eqb x.head v) x.whole 0) edges b e' d inside ∙ ap (λ t. into (λ e. e.whole) edges v + cond (eqb t v) e'.whole 0) same

owes_push_short : (left : ℕ) (edges : List Edge) (n p b : ℕ) (d e' : Edge) → b < length edges → Pushed left (get_or edges b d) e' → 0 < (get_or edges b d).under → Owes (λ e. e.whole) edges n p (get_or edges b d).head 1 → Owes (λ e. e.whole) (set edges b e') n p (get_or edges b d).tail 1
owes_push_short left edges n p b d e' inside pushed short owes = record {
  at = λ v h.
      let e = get_or edges b d in
      owes_short (out_of (λ x. x.whole) edges v) (into (λ x. x.whole) edges v) (out_of (λ x. x.whole) (set edges b e') v) (into (λ x. x.whole) (set edges b e') v)
      (cond (eqb p v) 1 0) (cond (eqb e.head v) 1 0) (cond (eqb e.tail v) 1 0) (owes.at v h)
      (more_val (eqb e.tail v) e.whole e'.whole _ _ (pushed.short short) (out_set edges b v d e' inside pushed.tail))
      (more_val (eqb e.head v) e.whole e'.whole _ _ (pushed.short short) (in_set edges b v d e' inside pushed.head));
}

owes_push_long : (left : ℕ) (edges : List Edge) (n p b : ℕ) (d e' : Edge) → b < length edges → Pushed left (get_or edges b d) e' → 0 < (get_or edges b d).over → Owes (λ e. e.whole) edges n p (get_or edges b d).tail 1 → Owes (λ e. e.whole) (set edges b e') n p (get_or edges b d).head 1
owes_push_long left edges n p b d e' inside pushed long owes = record {
  at = λ v h.
      let e = get_or edges b d in
      owes_long (out_of (λ x. x.whole) edges v) (into (λ x. x.whole) edges v) (out_of (λ x. x.whole) (set edges b e') v) (into (λ x. x.whole) (set edges b e') v)
      (cond (eqb p v) 1 0) (cond (eqb e.tail v) 1 0) (cond (eqb e.head v) 1 0) (owes.at v h)
      (less_val (eqb e.tail v) e.whole e'.whole _ _ (pushed.long long) (out_set edges b v d e' inside pushed.tail))
      (less_val (eqb e.head v) e.whole e'.whole _ _ (pushed.long long) (in_set edges b v d e' inside pushed.head));
}

pub ends_of_short : (e : Edge) → 0 < e.under → (enters e ≡ e.head) × (leaves e ≡ e.tail)
ends_of_short e h = (grind (arith, nat_tests), grind (arith, nat_tests))

pub ends_of_long : (e : Edge) → e.under ≡ 0 → (enters e ≡ e.tail) × (leaves e ≡ e.head)
ends_of_long e h = (grind (arith, nat_tests), grind (arith, nat_tests))

pub none_or_some : (n : ℕ) → (n ≡ 0) ⊎ (0 < n)
none_or_some zero = inl refl
none_or_some (suc n) = inr (omega arith)

-- the debt goes from the node that the push enters to the one that it leaves
pub owes_push : (left : ℕ) (edges : List Edge) (n p b : ℕ) (d e' : Edge) → b < length edges → Pushed left (get_or edges b d) e' → 0 < gap_of (get_or edges b d)
    → Owes (λ e. e.whole) edges n p (enters (get_or edges b d)) 1 → Owes (λ e. e.whole) (set edges b e') n p (leaves (get_or edges b d)) 1
owes_push left edges n p b d e' inside pushed off owes =
    let e = get_or edges b d in
    let P : ℕ → Type 0 = λ t. Owes (λ e. e.whole) edges n p t 1 in
    let Q : ℕ → Type 0 = λ t. Owes (λ e. e.whole) (set edges b e') n p t 1 in
    elim (none_or_some e.under) [
      | inl zero_under ↦ (let ends = ends_of_long e zero_under in subst Q (sym ends.1) (owes_push_long left edges n p b d e' inside pushed (omega arith) (subst P ends.0 owes)))
      | inr short ↦ (let ends = ends_of_short e short in subst Q (sym ends.1) (owes_push_short left edges n p b d e' inside pushed short (subst P ends.0 owes)))
    ]

-- wires and remainders stay
pub wires_push : (left : ℕ) (edges : List Edge) (b : ℕ) (d e' : Edge) → Pushed left (get_or edges b d) e' → map wire (set edges b e') ≡ map wire edges
wires_push left edges b d e' pushed =
    let e = get_or edges b d in
    let same : wire e' ≡ wire e = ap (λ t. (t, e'.head)) pushed.tail ∙ ap (λ t. (e.tail, t)) pushed.head in
    map-set_same wire edges b e' d same

rest_same : (left : ℕ) (a b : Edge) → IsSound left a → IsSound left b → Pushed left a b → rest_of left b ≡ rest_of left a
rest_same left a b sound sounds pushed = omega (arith, sound.over_whole, sounds.over_whole, pushed.rest_stays)

pub rests_push : (left : ℕ) (edges : List Edge) (b : ℕ) (d e' : Edge) → IsSound left (get_or edges b d) → IsSound left e' → Pushed left (get_or edges b d) e' → map (rest_of left) (set edges b e') ≡ map (rest_of left) edges
rests_push left edges b d e' sound sounds pushed = map-set_same (rest_of left) edges b e' d (rest_same left (get_or edges b d) e' sound sounds pushed)
