-- Over any set of nodes, what flows out of it and into it: both ends of the edges weigh the same.
use Rattle.std.proofs.Common.{◌≡◌, ℕ, ◌+◌, ◌*◌, ◌<◌, ◌≤◌, ◌⊎◌, Bool, true, false, suc, zero, List, refl, arith, ap, sym, ◌∙◌, cond, eqb, inl, inr, subst, All}
use Rattle.std.specs.Prelude.{sum_by}
use Rattle.std.proofs.lemmas.List.Elements.{recursion_from_All}
use Rattle.std.proofs.lemmas.Bool.{ne_eqb}
use Rattle.std.proofs.lemmas.Bool.Decides.{nat_tests}
use Rattle.definitions.proofs.Sums.{sum_same, sum_same_all, sum_of_sums, sum_scaled}
use Rattle.bounded_flow.specs.declared.edge.Edge.{Edge}
use Rattle.bounded_flow.specs.Flows.{out_of, into, Balanced, IsInside}

-- a weight on the nodes below n, and 0 from n on
abbrev pub upto : (ℕ → ℕ) → ℕ → ℕ → ℕ
upto p zero v = 0
upto p (suc n) v = upto p n v + cond (eqb v n) (p n) 0

one_node : (b : Bool) (p v : ℕ) → cond b p 0 * v ≡ p * cond b v 0
one_node true p v = omega arith
one_node false p v = omega arith

one_more : (b : Bool) (w p v : ℕ) → (w + cond b p 0) * v ≡ w * v + p * cond b v 0
one_more b w p v = grind (arith, one_node b p v)

tails : (p : ℕ → ℕ) (val : Edge → ℕ) (edges : List Edge) (n : ℕ) → sum_by (λ e. upto p (suc n) e.tail * val e) edges ≡ sum_by (λ e. upto p n e.tail * val e) edges + p n * out_of val edges n
tails p val edges n =
    let same = sum_same (λ e. upto p (suc n) e.tail * val e) (λ e. upto p n e.tail * val e + p n * cond (eqb e.tail n) (val e) 0) edges (λ e. one_more (eqb e.tail n) (upto p n e.tail) (p n) (val e)) in
    let split = sum_of_sums (λ e. upto p n e.tail * val e) (λ e. p n * cond (eqb e.tail n) (val e) 0) edges in
    let scaled = sum_scaled (p n) (λ (e : Edge). cond (eqb e.tail n) (val e) 0) edges in
    omega (arith, same, split, scaled)

heads : (p : ℕ → ℕ) (val : Edge → ℕ) (edges : List Edge) (n : ℕ) → sum_by (λ e. upto p (suc n) e.head * val e) edges ≡ sum_by (λ e. upto p n e.head * val e) edges + p n * into val edges n
heads p val edges n =
    let same = sum_same (λ e. upto p (suc n) e.head * val e) (λ e. upto p n e.head * val e + p n * cond (eqb e.head n) (val e) 0) edges (λ e. one_more (eqb e.head n) (upto p n e.head) (p n) (val e)) in
    let split = sum_of_sums (λ e. upto p n e.head * val e) (λ e. p n * cond (eqb e.head n) (val e) 0) edges in
    let scaled = sum_scaled (p n) (λ (e : Edge). cond (eqb e.head n) (val e) 0) edges in
    omega (arith, same, split, scaled)

-- whatever weights the nodes have, both ends of the edges weigh the same
both_ends : (p : ℕ → ℕ) (val : Edge → ℕ) (edges : List Edge) (n : ℕ) → Balanced val edges n → sum_by (λ e. upto p n e.tail * val e) edges ≡ sum_by (λ e. upto p n e.head * val e) edges
both_ends p val edges zero b = refl
both_ends p val edges (suc n) b =
    let before = both_ends p val edges n (λ v h. b v (omega arith)) in
    let here = ap (λ m. p n * m) (b n (omega arith)) in
    omega (arith, tails p val edges n, heads p val edges n, before, here)

upto_above : (p : ℕ → ℕ) (n v : ℕ) → n ≤ v → upto p n v ≡ 0
upto_above p zero v h = refl
upto_above p (suc n) v h = grind (arith, nat_tests, upto_above p n v (omega arith))

last_or_below : (n v : ℕ) → v < suc n → (v ≡ n) ⊎ (v < n)
last_or_below zero zero h = inl refl
last_or_below zero (suc v) h = absurd (omega arith)
last_or_below (suc n) zero h = inr (omega arith)
last_or_below (suc n) (suc v) h = elim (last_or_below n v (omega arith)) [
  | inl e ↦ inl (omega (arith, e))
  | inr l ↦ inr (omega (arith, l))
]

here : (p : ℕ → ℕ) (n : ℕ) → upto p (suc n) n ≡ p n
here p n = grind (arith, nat_tests, upto_above p n n (omega arith))

upto_below : (p : ℕ → ℕ) (n v : ℕ) → v < n → upto p n v ≡ p v
upto_below p zero v h = absurd (omega arith)
upto_below p (suc n) v h = elim (last_or_below n v h) [
  | inl e ↦ (let P : ℕ → Type 0 = λ t. upto p (suc n) t ≡ p t in subst P (sym e) (here p n))
  | inr l ↦ (
      let below = upto_below p n v l in
      let other : eqb v n ≡ false = ne_eqb v n (λ e. omega (arith, e)) in
      rw other (omega (arith, below)))
]

weighed : (b : Bool) (m w : ℕ) → w ≡ cond b 1 0 → cond b m 0 ≡ w * m
weighed true m w e = grind arith
weighed false m w e = grind arith

-- over any set of nodes, the edges that begin in it carry as much as those that end in it
pub reached_ends : (r : ℕ → Bool) (n : ℕ) (val : Edge → ℕ) (edges : List Edge) → All (IsInside n) edges → Balanced val edges n → sum_by (λ e. cond (r e.tail) (val e) 0) edges ≡ sum_by (λ e. cond (r e.head) (val e) 0) edges
reached_ends r n val edges inside b =
    let p : ℕ → ℕ = λ v. cond (r v) 1 0 in
    let each = recursion_from_All (IsInside n) edges inside in
    let t = sum_same_all (IsInside n) (λ e. cond (r e.tail) (val e) 0) (λ e. upto p n e.tail * val e) edges (λ e h. weighed (r e.tail) (val e) (upto p n e.tail) (upto_below p n e.tail h.0)) each in
    let h = sum_same_all (IsInside n) (λ e. cond (r e.head) (val e) 0) (λ e. upto p n e.head * val e) edges (λ e h. weighed (r e.head) (val e) (upto p n e.head) (upto_below p n e.head h.1)) each in
    t ∙ both_ends p val edges n b ∙ sym h
