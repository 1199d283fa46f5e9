-- The cells of one agent stand in one run.
use Rattle.std.proofs.Common.{◌≡◌, ℕ, ◌+◌, ◌<◌, ◌≤◌, ◌++◌, ◌∙◌, List, Bool, true, false, eqb, ltb, leb, filter, length, get_or, take, drop, sym, ap, inl, inr, arith, All}
use Rattle.std.specs.List.Sorted.{IsPartitionPoint, IsNonDecreasingBy}
use Rattle.std.proofs.lemmas.Bool.{ne_eqb, eq-eqb, ltb-true, ltb-false, leb-true, leb-false, cases_lt}
use Rattle.std.proofs.lemmas.List.{take-append-drop, length-take, length-drop, get_or-take, get_or-drop, append-nil}
use Rattle.std.proofs.lemmas.List.Elements.{filter-append}
use Rattle.std.proofs.lemmas.List.Sorted.{IsNonDecreasingBy-drop}
use Rattle.definitions.specs.declared.Cell.{Cell}
use Rattle.definitions.specs.Sets.{IsBefore, IsRising}
use Rattle.definitions.proofs.Lists.{filter_none, filter_all}

-- a filter by a front in which none passes, a middle in which all pass and a rest in which none passes
filter_middle : {X : Type 0} (p : X → Bool) (xs : List X) (s n : ℕ)
    → All (λ x. p x ≡ false) (take s xs) → All (λ x. p x ≡ true) (take n (drop s xs)) → All (λ x. p x ≡ false) (drop n (drop s xs))
    → take n (drop s xs) ≡ filter p xs
filter_middle p xs s n front middle rest =
    let whole : filter p xs ≡ filter p (take s xs) ++ filter p (drop s xs) = ap (filter p) (sym (take-append-drop s xs)) ∙ filter-append p (take s xs) (drop s xs) in
    let later : filter p (drop s xs) ≡ filter p (take n (drop s xs)) ++ filter p (drop n (drop s xs)) = ap (filter p) (sym (take-append-drop n (drop s xs))) ∙ filter-append p (take n (drop s xs)) (drop n (drop s xs)) in
    sym (whole ∙ rw (filter_none p (take s xs) front, later, filter_all p (take n (drop s xs)) middle, filter_none p (drop n (drop s xs)) rest) (append-nil (take n (drop s xs))))

-- rising cells do not fall by agent
pub rising_agents : (cells : List Cell) → IsRising cells → IsNonDecreasingBy (λ (c : Cell). c.agent) cells
rising_agents cells rises i j d l m = elim (cases_lt i j) [
  | inl before ↦ agents (get_or cells i d) (get_or cells j d) (rises i j d before m)
  | inr from ↦ (let same : i ≡ j = omega arith in let e = ap (λ k. (get_or cells k d).agent) same in omega (arith, e))
]
  where
    agents : (a b : Cell) → IsBefore a b → a.agent ≤ b.agent
    agents a b (inl l) = omega arith
    agents a b (inr l) = omega (arith, l.0)

pub rest_rises : (cells : List Cell) (s : ℕ) → IsNonDecreasingBy (λ (c : Cell). c.agent) cells → IsNonDecreasingBy (λ (c : Cell). c.agent) (drop s cells)
rest_rises cells s rises = IsNonDecreasingBy-drop (λ (c : Cell). c.agent) s cells rises

-- where a list does not fall by a key, what has one key stands between the first entry that is not before it and the first after it
pub run_is_filter : {X : Type 0} (key : X → ℕ) (xs : List X) (at s n : ℕ)
    → IsPartitionPoint (λ x. ltb (key x) at ≡ true) (λ x. ltb (key x) at ≡ false) xs s
    → IsPartitionPoint (λ x. leb (key x) at ≡ true) (λ x. leb (key x) at ≡ false) (drop s xs) n
    → take n (drop s xs) ≡ filter (λ x. eqb (key x) at) xs
run_is_filter key xs at s n first second = filter_middle (λ x. eqb (key x) at) xs s n
    (λ k d l.
    let low : k < s = omega (arith, length-take s xs) in
    let before = ltb-true (key (get_or xs k d)) at (first.0 k d (omega arith) low) in
    rw (get_or-take s xs k d low) (ne_eqb (key (get_or xs k d)) at (λ e. absurd (omega arith))))
    (λ k d l.
    let low : k < n = omega (arith, length-take n (drop s xs)) in
    let inside : s + k < length xs = omega (arith, length-take n (drop s xs), length-drop s xs) in
    let place = get_or-drop s xs k d in
    let upto = leb-true (key (get_or (drop s xs) k d)) at (second.0 k d (omega arith) low) in
    let from = ltb-false (key (get_or xs (s + k) d)) at (first.1 (s + k) d (omega arith) inside) in
    let keys = ap key place in
    rw (get_or-take n (drop s xs) k d low) (eq-eqb (key (get_or (drop s xs) k d)) at (omega arith)))
    (λ k d l.
    let inside : n + k < length (drop s xs) = omega (arith, length-drop n (drop s xs)) in
    let after = leb-false (key (get_or (drop s xs) (n + k) d)) at (second.1 (n + k) d (omega arith) inside) in
    rw (get_or-drop n (drop s xs) k d) (ne_eqb (key (get_or (drop s xs) (n + k) d)) at (λ e. absurd (omega arith))))
