-- A weight is taken off: every gap stays, and the flow stays a flow.
use Rattle.std.proofs.Common.{◌≡◌, ℕ, zero, suc, ◌+◌, ◌-◌, ◌*◌, ◌<◌, ◌≤◌, Bool, true, false, cond, eqb, List, get_or, ap, subst, inl, inr, arith, All}
use Rattle.std.specs.Prelude.{sum_by}
use Rattle.std.proofs.lemmas.Bool.{cases_lt}
use Rattle.std.proofs.lemmas.List.Elements.{recursion_from_All}
use Rattle.definitions.proofs.Sums.{sum_same_all, sum_of_sums, sum_scaled}
use Rattle.bounded_flow.specs.declared.edge.Edge.{Edge}
use Rattle.bounded_flow.specs.Edges.{rest_of, gap_of, IsSound}
use Rattle.bounded_flow.specs.Flows.{Balanced, IsFlow}
use Rattle.bounded_flow.proofs.Pushes.{none_or_some}

times_le : (k m : ℕ) → 0 < m → k ≤ k * m
times_le k zero h = absurd (omega arith)
times_le k (suc m) h = grind arith

few_times : (k m : ℕ) → m ≤ 999 → k * m ≤ 999 * k
few_times k m h = grind arith

few_times_all : (k m : ℕ) → m ≤ 1000 → k * m ≤ 1000 * k
few_times_all k m h = grind arith

no_room : (left m under j : ℕ) → m ≡ 1000 + j → left * m + under ≤ 1000 * left → 0 < under → ⊥
no_room left m under j e h g =
    let h2 : left * (1000 + j) + under ≤ 1000 * left = subst (λ (t : ℕ). left * t + under ≤ 1000 * left) e h in
    grind arith

some_times : (left m over : ℕ) → over ≤ left * m → 0 < over → 0 < m
some_times left zero over h g = absurd (omega arith)
some_times left (suc m) over h g = omega arith

-- with a weight w off and k left
module _ (left w k : ℕ) (e : Edge) (split : w + k ≡ left) (sound : IsSound left e) (near : gap_of e ≤ k) where
  kept_over : e.over ≤ k * e.whole
  kept_over = elim (none_or_some e.over) [
    | inl none ↦ omega (arith, none)
    | inr some ↦ omega (arith, near, times_le k e.whole (some_times left e.whole e.over sound.over_whole some))
  ]

  kept_few : k * e.whole + e.under ≤ 1000 * k + e.over
  kept_few = elim (none_or_some e.under) [
    | inl none ↦ omega (arith, none, few_times_all k e.whole sound.few)
    | inr some ↦ elim sound.one_side [
      | inl none ↦ absurd (omega arith)
      | inr even ↦ omega (arith, near, even, few_times k e.whole (below_thousand some even))
    ]
  ]
    where
      below_thousand : 0 < e.under → e.over ≡ 0 → e.whole ≤ 999
      below_thousand some even = elim (cases_lt e.whole 1000) [
        | inl low ↦ omega arith
        | inr high ↦ (
            let j : ℕ = e.whole - 1000 in
            let is : e.whole ≡ 1000 + j = omega arith in
            absurd (no_room left e.whole e.under j is (omega (arith, sound.rest_few, even)) some))
      ]

  pub kept_sound : IsSound k e
  kept_sound = record {
    one_side = sound.one_side;
    few = sound.few;
    over_left = omega (arith, near);
    over_whole = kept_over;
    rest_few = kept_few;
  }

  pub kept_rest : rest_of k e + w * e.whole ≡ rest_of left e
  kept_rest =
      let whole_is : left * e.whole ≡ w * e.whole + k * e.whole = (let s = ap (λ t. t * e.whole) split in omega (arith, s)) in
      omega (arith, whole_is, kept_over)

-- what a node carries of the remainder before is what it carries after, and the weight times its whole units
end_kept : (left w k v : ℕ) (end : Edge → ℕ) (edges : List Edge) → All (λ e. rest_of k e + w * e.whole ≡ rest_of left e) edges
    → sum_by (λ e. cond (eqb (end e) v) (rest_of left e) 0) edges ≡ sum_by (λ e. cond (eqb (end e) v) (rest_of k e) 0) edges + w * sum_by (λ e. cond (eqb (end e) v) e.whole 0) edges
end_kept left w k v end edges rests =
    let same = sum_same_all (λ (e : Edge). rest_of k e + w * e.whole ≡ rest_of left e) (λ e. cond (eqb (end e) v) (rest_of left e) 0) (λ e. cond (eqb (end e) v) (rest_of k e) 0 + w * cond (eqb (end e) v) e.whole 0) edges
    (λ e is. term (eqb (end e) v) (rest_of left e) (rest_of k e) e.whole is) (recursion_from_All (λ (e : Edge). rest_of k e + w * e.whole ≡ rest_of left e) edges rests) in
    let split = sum_of_sums (λ (e : Edge). cond (eqb (end e) v) (rest_of k e) 0) (λ e. w * cond (eqb (end e) v) e.whole 0) edges in
    let scaled = sum_scaled w (λ (e : Edge). cond (eqb (end e) v) e.whole 0) edges in
    omega (arith, same, split, scaled)
  where
    term : (b : Bool) (y y' m : ℕ) → y' + w * m ≡ y → cond b y 0 ≡ cond b y' 0 + w * cond b m 0
    term true y y' m is = omega (arith, is)
    term false y y' m is = omega arith

balanced_kept : (left w k n : ℕ) (edges : List Edge) → All (λ e. rest_of k e + w * e.whole ≡ rest_of left e) edges → Balanced (λ e. e.whole) edges n → Balanced (rest_of left) edges n → Balanced (rest_of k) edges n
balanced_kept left w k n edges rests whole balanced v h =
    let same = ap (λ t. w * t) (whole v h) in
    omega (arith, balanced v h, same, end_kept left w k v (λ e. e.tail) edges rests, end_kept left w k v (λ e. e.head) edges rests)

-- each remainder is what is left and the weight times the whole units
pub rests_kept : (left w k n : ℕ) (edges : List Edge) → w + k ≡ left → IsFlow left n edges → All (λ e. gap_of e ≤ k) edges → All (λ e. rest_of k e + w * e.whole ≡ rest_of left e) edges
rests_kept left w k n edges split flow near j d h = kept_rest left w k (get_or edges j d) split (flow.sound j d h) (near j d h)

-- the flow stays a flow over the weight that is left
pub flow_kept : (left w k n : ℕ) (edges : List Edge) → w + k ≡ left → IsFlow left n edges → All (λ e. gap_of e ≤ k) edges → IsFlow k n edges
flow_kept left w k n edges split flow near = record {
  inside = flow.inside;
  sound = λ j d h. kept_sound left w k (get_or edges j d) split (flow.sound j d h) (near j d h);
  whole = flow.whole;
  rests = balanced_kept left w k n edges (rests_kept left w k n edges split flow near) flow.whole flow.rests;
}
