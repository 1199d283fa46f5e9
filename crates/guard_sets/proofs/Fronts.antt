-- The set of an agent's first places: how many cells it has, what is in it, and that it is lawful.
use Rattle.std.proofs.Common.{◌≡◌, ℕ, zero, suc, ◌+◌, ◌-◌, ◌*◌, ◌/◌, ◌<◌, ◌≤◌, ◌^◌, ◌∙◌, List, [], ◌∷◌, ◌++◌, Bool, true, false, cond, map, filter, length, get_or, take, refl, sym, ap, subst, inl, inr, arith, All, count_by}
use Rattle.std.specs.Prelude.{sum_by, nat_eq}
use Rattle.std.specs.List.{AllByRecursion, range_with_len}
use Rattle.std.specs.Set.{is_member}
use Rattle.std.proofs.lemmas.Bool.{cases_Bool, both_ways, or_cases, eqb-true}
use Rattle.std.proofs.lemmas.Nat.{le-div, div_below, mul-le}
use Rattle.std.proofs.Math.Nat.{div-mul-le_self}
use Rattle.std.proofs.lemmas.List.{append-nil, length-take-le}
use Rattle.std.proofs.lemmas.List.Elements.{All-filter, recursion_from_All}
use Rattle.std.proofs.lemmas.List.FromFn.{filter_of_map_range_with_len_more, length-map-range_with_len, get_or-map-range_with_len}
use Rattle.std.proofs.lemmas.List.Kept.{AllPairs-filter}
use Rattle.std.proofs.lemmas.List.Sums.{sum_by-cons, sum_by-take-le, get_or-le-sum_by}
use Rattle.definitions.specs.declared.Cell.{Cell}
use Rattle.definitions.specs.Sets.{cell_of, row_cells, set_sum, prefix_sum, units_of, unit_at, ScaledValue, SetValue, IsBefore, IsRising, IsQuotaSet, IsScaledMatrix, IsCellWithin, IsInRange}
use Rattle.definitions.specs.Values.{ProblemValue, IsProblem, column_count, list_at, demand_at}
use Rattle.definitions.specs.Fairness.{prefix_set}
use Rattle.definitions.proofs.Members.{number_test, distinct_take, member_take, common_turned, every_by_count, all_from_members}
use Rattle.definitions.proofs.Ranges.{distinct_range, member_of_range}
use Rattle.definitions.proofs.Problems.{list_lawful, list_distinct}
use Rattle.definitions.proofs.Listed.{row_on_list}
use Rattle.certificate_laws.proofs.PrefixSets.{prefix_set_sum}
use Rattle.guard_sets.specs.Guard.{IsAssigned}

-- a cell of a row
row_cell : (columns i k : ℕ) (d : Cell) → k < length (row_cells columns i) → get_or (row_cells columns i) k d ≡ cell_of i k
row_cell columns i k d l = get_or-map-range_with_len (cell_of i) 0 columns k k d (omega (arith, l, length-map-range_with_len (cell_of i) 0 columns)) (omega arith)

-- a row rises
row_rises : (columns i : ℕ) → IsRising (row_cells columns i)
row_rises columns i a b d l m = rw (row_cell columns i a d (omega arith), row_cell columns i b d m) (inr (refl, l))

-- and is in range
row_inside : (agents columns i : ℕ) → i < agents → All (IsCellWithin agents columns) (row_cells columns i)
row_inside agents columns i known k d l = rw (row_cell columns i k d l) (known, omega (arith, l, length-map-range_with_len (cell_of i) 0 columns))

-- as many cells of a row pass a test of their column as columns do
kept_length : (i : ℕ) (test : ℕ → Bool) (columns : List ℕ) → length (filter (λ c. test c.object) (map (cell_of i) columns)) ≡ count_by test columns
kept_length i test [] = refl
kept_length i test (a ∷ columns) = here (test a) (kept_length i test columns) ∙ sym (sum_by-cons (λ b. cond (test b) 1 0) a columns)
  where
    here : (b : Bool) → length (filter (λ c. test c.object) (map (cell_of i) columns)) ≡ count_by test columns
        → length (cond b (cell_of i a ∷ filter (λ c. test c.object) (map (cell_of i) columns)) (filter (λ c. test c.object) (map (cell_of i) columns))) ≡ cond b 1 0 + count_by test columns
    here true e = omega (arith, e)
    here false e = omega (arith, e)

-- a member of the front of a list within a bound is within it
front_known : (n k : ℕ) (list : List ℕ) (a : ℕ) → AllByRecursion (λ b. b ≤ n) list → is_member nat_eq (take k list) a ≡ true → a ≤ n
front_known n k list a h m = elim (cases_Bool (is_member nat_eq list a)) [
  | inl found ↦ known list h found
  | inr missing ↦ absurd (both_ways (is_member nat_eq (take k list) a) (member_take nat_eq k list a missing) m)
]
  where
    known : (list : List ℕ) → AllByRecursion (λ b. b ≤ n) list → is_member nat_eq list a ≡ true → a ≤ n
    known [] h m = absurd (both_ways false refl m)
    known (b ∷ list) h m = elim (or_cases (nat_eq a b) (is_member nat_eq list a) m) [
      | inl here ↦ (let same : a ≡ b = eqb-true a b here in let le : b ≤ n = h.0 in omega (arith, same, le))
      | inr there ↦ known list h.1 there
    ]

module _ (p : ProblemValue) (x : ScaledValue) (i k : ℕ) (h : IsProblem p) (l : i < length p.agents) (most : k ≤ length (list_at p i)) where
  -- the set of k first places has k cells
  pub front_length : length (prefix_set p x i k).cells ≡ k
  front_length =
      let front = take k (list_at p i) in
      let columns = range_with_len 0 (column_count p) in
      let lawful = list_lawful p i h l in
      let kept : length (prefix_set p x i k).cells ≡ count_by (is_member nat_eq (take k (list_at p i))) (range_with_len 0 (column_count p)) = kept_length i (is_member nat_eq (take k (list_at p i))) (range_with_len 0 (column_count p)) in
      let turned : count_by (is_member nat_eq (take k (list_at p i))) (range_with_len 0 (column_count p)) ≡ count_by (is_member nat_eq (range_with_len 0 (column_count p))) (take k (list_at p i)) =
      common_turned nat_eq number_test columns front (distinct_range 0 (column_count p)) (distinct_take nat_eq k (list_at p i) lawful.apart) in
      let all : count_by (is_member nat_eq (range_with_len 0 (column_count p))) (take k (list_at p i)) ≡ length front =
      every_by_count (is_member nat_eq columns) front (all_from_members nat_eq number_test (is_member nat_eq columns) front
      (λ a m. member_of_range 0 (column_count p) a (omega arith) (let le = front_known (length p.objects) k (list_at p i) a (recursion_from_All (λ b. b ≤ length p.objects) (list_at p i) lawful.known) m in omega (arith, le)))) in
      omega (arith, kept, turned, all, length-take-le k (list_at p i) most)

  -- the units in it are those of the first places
  pub front_sum : x.columns ≡ column_count p → set_sum (units_of x) (prefix_set p x i k).cells ≡ prefix_sum (units_of x) i (list_at p i) k
  front_sum e =
      subst (λ n. set_sum (unit_at n x.units) (prefix_set p x i k).cells ≡ prefix_sum (unit_at n x.units) i (list_at p i) k) (sym e) (prefix_set_sum p x x.units i k h)

  -- and they are at most what the agent has in all
  pub front_most : IsAssigned p x → prefix_sum (units_of x) i (list_at p i) k ≤ demand_at p i * x.denominator
  front_most a =
      let part : prefix_sum (units_of x) i (list_at p i) k ≤ sum_by (λ b. units_of x (cell_of i b)) (list_at p i) = sum_by-take-le (λ (b : ℕ). units_of x (cell_of i b)) (list_at p i) k in
      let whole = row_on_list p (units_of x) i h l a.assignment.listed in
      omega (arith, part, whole, a.assignment.rows i l)

  -- no demand is above 1,000
  demand_few : demand_at p i ≤ 1000
  demand_few = (let le = get_or-le-sum_by (λ (d : ℕ). d) p.demands i 0 (omega (arith, h.demands_many, l)) in omega (arith, le, h.demands_limit))

  -- units over the denominator, rounded down or up, are at most the demand
  pub ceiling_few : IsAssigned p x → (prefix_sum (units_of x) i (list_at p i) k + x.denominator - 1) / x.denominator ≤ 1000
  ceiling_few a =
      let bound = front_most a in
      let more : (demand_at p i + 1) * x.denominator ≡ demand_at p i * x.denominator + x.denominator = grind arith in
      let one : 0 < x.denominator = omega (arith, a.assignment.one) in
      let below = div_below (prefix_sum (units_of x) i (list_at p i) k + x.denominator - 1) x.denominator (demand_at p i + 1) one (omega (arith, bound, more, one)) in
      omega (arith, below, demand_few)

  pub floor_least : IsAssigned p x → prefix_sum (units_of x) i (list_at p i) k / x.denominator ≤ (prefix_sum (units_of x) i (list_at p i) k + x.denominator - 1) / x.denominator
  floor_least a =
      let one : 0 < x.denominator = omega (arith, a.assignment.one) in
      let whole = div-mul-le_self (prefix_sum (units_of x) i (list_at p i) k) x.denominator in
      le-div (prefix_sum (units_of x) i (list_at p i) k / x.denominator) (prefix_sum (units_of x) i (list_at p i) k + x.denominator - 1) x.denominator one (omega (arith, whole, one))

  -- the cells rise
  pub front_rises : IsRising (prefix_set p x i k).cells
  front_rises = AllPairs-filter IsBefore (λ c. is_member nat_eq (take k (list_at p i)) c.object) (row_cells (column_count p) i) (row_rises (column_count p) i)

  pub front_lawful : IsAssigned p x → IsQuotaSet (prefix_set p x i k)
  front_lawful a = record { side = inl refl; rise = front_rises; quotas = floor_least a; limit = ceiling_few a }

  pub front_inside : IsInRange (length p.agents) (column_count p) (prefix_set p x i k)
  front_inside = All-filter (λ (c : Cell). is_member nat_eq (take k (list_at p i)) c.object) (IsCellWithin (length p.agents) (column_count p)) (row_cells (column_count p) i) (row_inside (length p.agents) (column_count p) i l)

  pub front_within : IsAssigned p x → All (IsCellWithin x.agents x.columns) (prefix_set p x i k).cells
  front_within a =
      subst (λ n. All (IsCellWithin n x.columns) (prefix_set p x i k).cells) (sym a.agents)
      (subst (λ n. All (IsCellWithin (length p.agents) n) (prefix_set p x i k).cells) (sym a.columns) front_inside)

  -- the units in cells that are those of the set
  pub front_units : (cells : List Cell) (units : ℕ) → cells ≡ (prefix_set p x i k).cells → units ≡ set_sum (units_of x) cells → IsAssigned p x → units ≡ prefix_sum (units_of x) i (list_at p i) k
  front_units cells units e u a = u ∙ ap (set_sum (units_of x)) e ∙ front_sum a.columns

  -- quotients and sums fit their types
  pub front_numbers : (units one : ℕ) → units ≡ prefix_sum (units_of x) i (list_at p i) k → one ≡ x.denominator → IsAssigned p x → IsScaledMatrix x
      → (units / one ≤ 1000) × (units + one < 2 ^ 128) × ((units + one - 1) / one ≤ 1000)
  front_numbers units one u o a m =
      let low : units / one ≡ prefix_sum (units_of x) i (list_at p i) k / x.denominator = ap (λ n. n / one) u ∙ ap (λ n. prefix_sum (units_of x) i (list_at p i) k / n) o in
      let high : (units + one - 1) / one ≡ (prefix_sum (units_of x) i (list_at p i) k + x.denominator - 1) / x.denominator =
      ap (λ n. (n + one - 1) / one) u ∙ ap (λ n. (prefix_sum (units_of x) i (list_at p i) k + n - 1) / n) o in
      let product : demand_at p i * x.denominator ≤ 1000 * 2 ^ 116 = mul-le (demand_at p i) x.denominator 1000 (2 ^ 116) demand_few m.limit in
      let few = ceiling_few a in
      (omega (arith, low, floor_least a, few), omega (arith, u, o, front_most a, product, m.limit), omega (arith, high, few))

  -- the set is made of these
  pub front_made : (cells : List Cell) (units one : ℕ) → cells ≡ (prefix_set p x i k).cells → units ≡ prefix_sum (units_of x) i (list_at p i) k → one ≡ x.denominator
      → ◌≡◌ {A = SetValue} (record { side = 1; floor = units / one; ceiling = (units + one - 1) / one; cells = cells }) (prefix_set p x i k)
  front_made cells units one e u o =
      ap (λ (n : ℕ). record { side = 1; floor = n / one; ceiling = (n + one - 1) / one; cells = cells }) u
      ∙ ap (λ (n : ℕ). record { side = 1; floor = prefix_sum (units_of x) i (list_at p i) k / n; ceiling = (prefix_sum (units_of x) i (list_at p i) k + n - 1) / n; cells = cells }) o
      ∙ ap (λ (cs : List Cell). record { side = 1; floor = prefix_sum (units_of x) i (list_at p i) k / x.denominator; ceiling = (prefix_sum (units_of x) i (list_at p i) k + x.denominator - 1) / x.denominator; cells = cs }) e

-- the cells of a row in the first columns of an agent's list are those of the set
pub front_is : (p : ProblemValue) (x : ScaledValue) (i k : ℕ) (list : List ℕ) (columns : ℕ) (cells : List Cell) → cells ≡ filter (λ c. is_member nat_eq (take k list) c.object) (row_cells columns i)
    → list ≡ list_at p i → columns ≡ column_count p → cells ≡ (prefix_set p x i k).cells
front_is p x i k list columns cells e l c =
    e ∙ ap (λ (ns : List ℕ). filter (λ d. is_member nat_eq (take k ns) d.object) (row_cells columns i)) l ∙ ap (λ (n : ℕ). filter (λ d. is_member nat_eq (take k (list_at p i)) d.object) (row_cells n i)) c

-- ---- the cells of a row that are kept, column by column

pub kept_more : (front : List ℕ) (i k : ℕ) (found : List Cell) → is_member nat_eq front k ≡ true → found ≡ filter (λ c. is_member nat_eq front c.object) (row_cells k i)
    → found ++ cell_of i k ∷ [] ≡ filter (λ c. is_member nat_eq front c.object) (row_cells (k + 1) i)
kept_more front i k found m e =
    ap (λ cs. cs ++ cell_of i k ∷ []) e
    ∙ ap (λ b. filter (λ (c : Cell). is_member nat_eq front c.object) (row_cells k i) ++ cond b (cell_of i k ∷ []) []) (sym m)
    ∙ sym (filter_of_map_range_with_len_more (λ (c : Cell). is_member nat_eq front c.object) (cell_of i) 0 k k (omega arith))

pub kept_same : (front : List ℕ) (i k : ℕ) (found : List Cell) → is_member nat_eq front k ≡ false → found ≡ filter (λ c. is_member nat_eq front c.object) (row_cells k i)
    → found ≡ filter (λ c. is_member nat_eq front c.object) (row_cells (k + 1) i)
kept_same front i k found m e =
    e ∙ sym (append-nil (filter (λ (c : Cell). is_member nat_eq front c.object) (row_cells k i)))
    ∙ ap (λ b. filter (λ (c : Cell). is_member nat_eq front c.object) (row_cells k i) ++ cond b (cell_of i k ∷ []) []) (sym m)
    ∙ sym (filter_of_map_range_with_len_more (λ (c : Cell). is_member nat_eq front c.object) (cell_of i) 0 k k (omega arith))
