-- Lawful problems: their lists, the agents of their markets, and the column of `none`.
use Rattle.std.proofs.Common.{◌≡◌, ℕ, suc, zero, ◌+◌, ◌-◌, ◌<◌, ◌≤◌, List, [], ◌∷◌, Bool, true, false, cond, length, get_or, Some, refl, ap, sym, subst, inl, inr, arith}
use Rattle.std.specs.Prelude.{nat_eq, slice_get, slice_index, sum_by, unwrap_or, ◌==◌}
use Rattle.std.specs.List.{AllByRecursion, IsDistinct, range_with_len}
use Rattle.std.specs.Set.{is_member}
use Rattle.std.proofs.lemmas.Bool.{and_right, or_from, ne_eqb, cases_lt}
use Rattle.std.proofs.lemmas.Option.{unwrap_or-slice_get, slice_get_past, slice_get_within}
use Rattle.std.proofs.lemmas.List.Elements.{recursion_from_All}
use Rattle.std.proofs.lemmas.List.FromFn.{length-range_with_len}
use Rattle.std.proofs.lemmas.List.Sums.{sum_by-cons, sum_by-le}
use Rattle.definitions.specs.declared.Cell.{Cell}
use Rattle.definitions.specs.Sets.{cell_of, same_cell, holds}
use Rattle.definitions.specs.Values.{ProblemValue, IsProblem, IsListUpTo, market_agents, market_of, list_at, demand_at}
use Rattle.definitions.proofs.Members.{distinct_none, number_test}
use Rattle.definitions.proofs.Ranges.{distinct_range, member_of_range}
use Rattle.definitions.proofs.Sums.{restrict, sum_same_all}

-- the agent of a market at an index has the demand and the list that stand there
pub agent_within : (demands : List ℕ) (lists : List (List ℕ)) (i : ℕ) → i < length demands → i < length lists
    → slice_get (market_agents demands lists) i ≡ Some (record { demand = slice_index demands i; list = unwrap_or (slice_get lists i) [] })
agent_within [] lists i l k = absurd (omega arith)
agent_within (d ∷ demands) [] i l k = absurd (omega arith)
agent_within (d ∷ demands) (list ∷ lists) zero l k = refl
agent_within (d ∷ demands) (list ∷ lists) (suc i) l k = agent_within demands lists i (omega arith) (omega arith)

-- the agents of the market are the problem's, with their demands and lists
pub agent_of : (p : ProblemValue) (i : ℕ) → IsProblem p → i < length p.agents → slice_get (market_of p).agents i ≡ Some (record { demand = demand_at p i; list = list_at p i })
agent_of p i h l = agent_within p.demands p.lists i (omega (arith, h.demands_many)) (omega (arith, h.lists_many))

-- each agent has a lawful list
pub list_lawful : (p : ProblemValue) (i : ℕ) → IsProblem p → i < length p.agents → IsListUpTo (length p.objects) (list_at p i)
list_lawful p i h l =
    let inside : i < length p.lists = omega (arith, h.lists_many) in
    subst (IsListUpTo (length p.objects)) (sym (unwrap_or-slice_get p.lists i [])) (h.lists i [] inside)

-- no list has a column twice
pub list_distinct : (p : ProblemValue) (i : ℕ) → IsProblem p → IsDistinct nat_eq (list_at p i)
list_distinct p i h = elim (cases_lt i (length p.agents)) [
  | inl l ↦ (list_lawful p i h l).apart
  | inr k ↦ let past : length p.lists ≤ i = omega (arith, h.lists_many) in subst (λ o. IsDistinct nat_eq (unwrap_or o [])) (sym (slice_get_past p.lists i past)) (distinct_none nat_eq)
]

-- a set whose columns are all below n holds no cell of column n
pub none_held : (i n : ℕ) (cells : List Cell) → AllByRecursion (λ c. c.object < n) cells → holds cells (cell_of i n) ≡ false
none_held i n [] h = refl
none_held i n (c ∷ cells) h =
    or_from (same_cell (cell_of i n) c) (holds cells (cell_of i n)) (and_right (i == c.agent) (n == c.object) (ne_eqb n c.object (λ e. (let l : c.object < n = h.0 in absurd (omega arith)))))
    (none_held i n cells h.1)

-- ---- how long lists are

ones : (xs : List ℕ) → sum_by (λ (x : ℕ). 1) xs ≡ length xs
ones [] = refl
ones (x ∷ xs) = omega (arith, sum_by-cons (λ (x : ℕ). 1) x xs, ones xs)

twice : (b : Bool) → ◌≡◌ {A = ℕ} (cond b (cond b 1 0) 0) (cond b 1 0)
twice true = refl
twice false = refl

at_most_one : (a b : Bool) → cond a (cond b 1 0) 0 ≤ 1
at_most_one true true = omega arith
at_most_one true false = omega arith
at_most_one false b = omega arith

-- a list of distinct columns up to `none` is not longer than there are columns
short : (none : ℕ) (list : List ℕ) → IsListUpTo none list → length list ≤ none + 1
short none list h =
    let columns = range_with_len 0 (none + 1) in
    let one : ℕ → ℕ = λ a. cond (is_member nat_eq (range_with_len 0 (none + 1)) a) 1 0 in
    let moved : sum_by (λ a. cond (is_member nat_eq (range_with_len 0 (none + 1)) a) 1 0) list ≡ sum_by (λ a. cond (is_member nat_eq list a) (cond (is_member nat_eq (range_with_len 0 (none + 1)) a) 1 0) 0) (range_with_len 0 (none + 1)) =
    restrict nat_eq number_test (λ a. cond (is_member nat_eq (range_with_len 0 (none + 1)) a) 1 0) list (range_with_len 0 (none + 1)) h.apart (distinct_range 0 (none + 1)) (λ a. twice (is_member nat_eq (range_with_len 0 (none + 1)) a)) in
    let each : sum_by (λ a. cond (is_member nat_eq (range_with_len 0 (none + 1)) a) 1 0) list ≡ sum_by (λ (x : ℕ). 1) list =
    sum_same_all (λ a. a ≤ none) (λ a. cond (is_member nat_eq (range_with_len 0 (none + 1)) a) 1 0) (λ (x : ℕ). 1) list
    (λ a k. ap (λ b. cond b 1 0) (member_of_range 0 (none + 1) a (omega arith) (omega (arith, k)))) (recursion_from_All (λ a. a ≤ none) list h.known) in
    let few = sum_by-le (λ a. cond (is_member nat_eq list a) (cond (is_member nat_eq (range_with_len 0 (none + 1)) a) 1 0) 0) 1 (range_with_len 0 (none + 1))
    (λ k d l. at_most_one (is_member nat_eq list (get_or (range_with_len 0 (none + 1)) k d)) (is_member nat_eq (range_with_len 0 (none + 1)) (get_or (range_with_len 0 (none + 1)) k d))) in
    omega (arith, moved, each, few, ones list, length-range_with_len 0 (none + 1))

-- a list has from 1 to 201 columns
pub list_short : (p : ProblemValue) (i : ℕ) → IsProblem p → i < length p.agents → (1 ≤ length (list_at p i)) × (length (list_at p i) ≤ 201)
list_short p i h l =
    let lawful = list_lawful p i h l in
    let some = slice_get_within (list_at p i) (length (list_at p i) - 1) (length p.objects) lawful.last in
    (omega (arith, some), (let few = short (length p.objects) (list_at p i) lawful in omega (arith, few, h.objects_limit)))
