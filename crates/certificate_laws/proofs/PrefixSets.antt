-- The sets of first places that the guarded family adds: what they hold, and what a matrix has there.
use Rattle.std.proofs.Common.{◌≡◌, ℕ, suc, zero, ◌+◌, ◌<◌, ◌≤◌, List, [], ◌∷◌, ◌++◌, map, length, take, refl, ap, sym, ◌∙◌, arith, Bool, true, false, cond, filter, inl, inr, subst}
use Rattle.std.specs.Prelude.{sum_by, flat_map, nat_eq}
use Rattle.std.specs.List.{AllByRecursion, range_with_len}
use Rattle.std.specs.Set.{is_member}
use Rattle.std.proofs.lemmas.Bool.{cases_lt}
use Rattle.std.proofs.lemmas.List.Elements.{recursion_from_All}
use Rattle.std.proofs.lemmas.List.Sums.{sum_by-cons}
use Rattle.definitions.specs.declared.Cell.{Cell}
use Rattle.definitions.specs.Sets.{cell_of, set_sum, prefix_sum, unit_at, ScaledValue, cells_of, SetValue}
use Rattle.definitions.specs.Values.{ProblemValue, IsProblem, column_count, list_at}
use Rattle.definitions.specs.Rounding.{IsRounded, Rounds}
use Rattle.definitions.specs.Fairness.{prefix_set, guarded_family}
use Rattle.definitions.proofs.Members.{number_test, distinct_take}
use Rattle.definitions.proofs.Sums.{restrict, unit_at_past}
use Rattle.definitions.proofs.Lists.{each_mapped, each_of_front, each_of_rest}
use Rattle.definitions.proofs.Ranges.{distinct_range, member_of_range}
use Rattle.definitions.proofs.Problems.{list_distinct}

-- a sum over the cells of a part of a row that pass a test of their column
sum_of_part : (x : Cell → ℕ) (i : ℕ) (test : ℕ → Bool) (columns : List ℕ)
    → set_sum x (filter (λ c. test c.object) (map (cell_of i) columns)) ≡ sum_by (λ a. cond (test a) (x (cell_of i a)) 0) columns
sum_of_part x i test [] = refl
sum_of_part x i test (a ∷ columns) =
    here (test a) ∙ ap (λ n. cond (test a) (x (cell_of i a)) 0 + n) (sum_of_part x i test columns) ∙ sym (sum_by-cons (λ b. cond (test b) (x (cell_of i b)) 0) a columns)
  where
    here : (b : Bool) → set_sum x (cond b (cell_of i a ∷ filter (λ c. test c.object) (map (cell_of i) columns)) (filter (λ c. test c.object) (map (cell_of i) columns)))
        ≡ cond b (x (cell_of i a)) 0 + set_sum x (filter (λ c. test c.object) (map (cell_of i) columns))
    here true = sum_by-cons x (cell_of i a) (filter (λ c. test c.object) (map (cell_of i) columns))
    here false = omega arith

-- what a matrix has in the set of an agent's first k places
pub prefix_set_sum : (p : ProblemValue) (x : ScaledValue) (m : List ℕ) (i k : ℕ) → IsProblem p
    → set_sum (unit_at (column_count p) m) (prefix_set p x i k).cells ≡ prefix_sum (unit_at (column_count p) m) i (list_at p i) k
prefix_set_sum p x m i k h =
    let n = column_count p in
    let front = take k (list_at p i) in
    let units = λ (a : ℕ). unit_at (column_count p) m (cell_of i a) in
    sum_of_part (unit_at n m) i (λ a. is_member nat_eq front a) (range_with_len 0 n)
    ∙ sym (restrict nat_eq number_test units front (range_with_len 0 n) (distinct_take nat_eq k (list_at p i) (list_distinct p i h)) (distinct_range 0 n) off)
  where
    off : (a : ℕ) → cond (is_member nat_eq (range_with_len 0 (column_count p)) a) (unit_at (column_count p) m (cell_of i a)) 0 ≡ unit_at (column_count p) m (cell_of i a)
    off a = elim (cases_lt a (column_count p)) [
      | inl l ↦ ap (λ b. cond b (unit_at (column_count p) m (cell_of i a)) 0) (member_of_range 0 (column_count p) a (omega arith) (omega arith))
      | inr past ↦ none (is_member nat_eq (range_with_len 0 (column_count p)) a) (unit_at (column_count p) m (cell_of i a)) (unit_at_past (column_count p) m (cell_of i a) past)
    ]
      where
        none : (b : Bool) (n : ℕ) → n ≡ 0 → cond b n 0 ≡ n
        none true n e = refl
        none false n e = sym e

-- what holds of each element of lists joined end to end holds of each element of each
pub each_of_flat : {X Y : Type 0} (P : Y → Type 0) (g : X → List Y) (xs : List X) → AllByRecursion P (flat_map g xs) → AllByRecursion (λ x. AllByRecursion P (g x)) xs
each_of_flat P g [] a = tt
each_of_flat P g (x ∷ xs) a = (each_of_front P (g x) (flat_map g xs) a, each_of_flat P g xs (each_of_rest P (g x) (flat_map g xs) a))

-- what holds of each number of a range
pub each_in_range : (P : ℕ → Type 0) (s n i : ℕ) → AllByRecursion P (range_with_len s n) → s ≤ i → i < s + n → P i
each_in_range P s zero i a l m = absurd (omega arith)
each_in_range P s (suc n) i a l m = elim (cases_lt s i) [
  | inl k ↦ each_in_range P (s + 1) n i a.1 (omega arith) (omega arith)
  | inr k ↦ (let e : s ≡ i = omega arith in subst P e a.0)
]

-- the sets that are added for all agents
abbrev pub added_sets : ProblemValue → ScaledValue → List SetValue
added_sets p x = flat_map (λ i. map (prefix_set p x i) (range_with_len 1 (length (list_at p i)))) (range_with_len 0 (length p.lists))

-- a rounding for the guarded family rounds the units of an agent's first k places
pub prefix_rounded : (p : ProblemValue) (x : ScaledValue) (m : List ℕ) (i k : ℕ) → IsProblem p → Rounds (column_count p) (cells_of (guarded_family p x)) x.units x.denominator m
    → i < length p.agents → 1 ≤ k → k ≤ length (list_at p i)
    → IsRounded (prefix_sum (unit_at (column_count p) x.units) i (list_at p i) k) x.denominator (prefix_sum (unit_at (column_count p) m) i (list_at p i) k)
prefix_rounded p x m i k h r l one most =
    let n = column_count p in
    let Fits = λ (s : SetValue). IsRounded (set_sum (unit_at (column_count p) x.units) s.cells) x.denominator (set_sum (unit_at (column_count p) m) s.cells) in
    let all : AllByRecursion Fits (p.family.sets ++ added_sets p x) =
    each_mapped (λ cells. IsRounded (set_sum (unit_at n x.units) cells) x.denominator (set_sum (unit_at n m) cells)) (λ (s : SetValue). s.cells) (p.family.sets ++ added_sets p x)
    (recursion_from_All (λ cells. IsRounded (set_sum (unit_at n x.units) cells) x.denominator (set_sum (unit_at n m) cells)) (cells_of (guarded_family p x)) r.sums) in
    let agents = each_of_flat Fits (λ i. map (prefix_set p x i) (range_with_len 1 (length (list_at p i)))) (range_with_len 0 (length p.lists)) (each_of_rest Fits p.family.sets (added_sets p x) all) in
    let mine : AllByRecursion Fits (map (prefix_set p x i) (range_with_len 1 (length (list_at p i)))) =
    each_in_range (λ i. AllByRecursion Fits (map (prefix_set p x i) (range_with_len 1 (length (list_at p i))))) 0 (length p.lists) i agents (omega arith) (omega (arith, h.lists_many)) in
    let here : Fits (prefix_set p x i k) =
    each_in_range (λ k. Fits (prefix_set p x i k)) 1 (length (list_at p i)) k (each_mapped Fits (prefix_set p x i) (range_with_len 1 (length (list_at p i))) mine) one (omega arith) in
    subst (λ y. IsRounded y x.denominator (prefix_sum (unit_at n m) i (list_at p i) k)) (prefix_set_sum p x x.units i k h)
    (subst (λ a. IsRounded (set_sum (unit_at n x.units) (prefix_set p x i k).cells) x.denominator a) (prefix_set_sum p x m i k h) here)
