-- Facts on small values, from tests that compute.
use Rattle.std.proofs.Common.{◌≡◌, ◌≢◌, ℕ, suc, zero, ◌+◌, ◌-◌, ◌*◌, ◌/◌, ◌^◌, ◌<◌, ◌≤◌, ◌⊎◌, List, [], ◌∷◌, Bool, true, false, not, ◌||◌, ◌&&◌, Option, Some, None, length, get_or, drop, refl, sym, ap, subst, inl, inr, arith, All, ◌∙◌}
use Rattle.std.specs.Prelude.{nat_lt, nat_le, ◌==◌, AllPairs, slice_get, slice_index, slice_index_or, MatchOption, ℤ, pos, ◌≤ℤ◌, ◌<ℤ◌, ◌+ℤ◌, int_lt, int_le, sum_by, sum, nat_eq}
use Rattle.std.specs.List.{list_all, list_any, IsDistinct, Any}
use Rattle.std.specs.Str.{bytes_eq}
use Rattle.std.proofs.lemmas.Bool.{both_ways, or_cases, and_parts, eqb-true, ltb-true, leb-true, lt-ltb, le-leb, eq-eqb, cases_lt, not-true, and_from, or_left, or_right, or_from}
use Rattle.std.proofs.lemmas.List.Folds.{Any-from_list_any}
use Rattle.std.proofs.lemmas.Slice.Eq.{bytes_eq-Decides}
use Rattle.std.proofs.lemmas.Int.{ints}
use Rattle.std.proofs.lemmas.Option.{slice_get_within, get_or_from_slice_get}
use Rattle.std.proofs.lemmas.List.Sums.{AllPass-from_list_all}
use Rattle.std.proofs.lemmas.Nat.Gcd.{le_of_dvd}
use Rattle.std.proofs.Math.Nat.{dvd-sub, mul-le-mul_right}
use Rattle.std.proofs.lemmas.List.{get_or_past}
use Prim.Native.Nat.{◌∣◌}
use Rattle.definitions.specs.declared.Cell.{Cell}
use Rattle.definitions.proofs.Members.{distinct_none, distinct_more}
use Rattle.definitions.proofs.Families.{is_lower, lower_true, no_set, bihierarchy_of_apart}
use Rattle.definitions.specs.declared.Give.{Give}
use Rattle.definitions.specs.Sets.{IsBefore, IsQuotaSet, IsFamily, IsInRange, IsCellWithin, cells_in, cell_of, crosses, cells_at, cells_of, sides_of, NoCrossing, set_sum, SetValue, unit_at, units_of, cell_index, row_sum, prefix_sum, FamilyValue, ScaledValue, IsSet, set_cells, set_size, set_side, is_subset, holds}
use Rattle.definitions.specs.Hierarchies.{IsLower, IsAbove, IsParent, HasNoParent, IsHolder, IsDeepest}
use Rattle.definitions.specs.Trees.{TreesValue, AreTreesOf, parent_at, deepest_at}
use Rattle.definitions.specs.Values.{ProblemValue, PricesValue, Market, list_at, demand_at, listed_cells, limits_of, stated_sets, worths_of, column_count, row_sets, HoldsColumn, IsListUpTo, IsStatedSet, IsProblem}
use Rattle.definitions.specs.Eating.{eaten_by, moment_at, limit_cells, limit_ceiling, share, IsEatingTable, IsPartialTable, IsLowestTerms, IsAssignmentOf}
use Rattle.definitions.specs.Assignment.{IsRandomAssignment, Dominates}
use Rattle.definitions.proofs.Sums.{unit_at_past, unit_at_within}
use Rattle.definitions.specs.Certificate.{worth_at, place_cell, cell_price, is_left_out, FallsFrom, Falls, Certifies}
use Rattle.definitions.specs.Lotteries.{LotteryValue, IsLottery, HasPrices, HasNoPrices}
use Rattle.definitions.specs.Rounding.{IsRounded, Rounds, fractional_count}
use Rattle.definitions.specs.Pieces.{WeightedMatrix, Decomposes, AreGives}

-- a test passes at each number below n
abbrev pub below : (ℕ → Bool) → ℕ → Bool
below p zero = true
below p (suc n) = p n && below p n

pub below_at : (p : ℕ → Bool) (n j : ℕ) → below p n ≡ true → j < n → p j ≡ true
below_at p zero j e l = absurd (omega (arith, l))
below_at p (suc n) j e l =
    let parts = and_parts (p n) (below p n) e in
    elim (cases_lt j n) [
      | inl before ↦ below_at p n j parts.1 before
      | inr from ↦ (let same : n ≡ j = omega (arith, l, from) in subst (λ k. p k ≡ true) same parts.0)
    ]

-- a test of what a test lets through
pub unless : (p q : Bool) → (not p || q) ≡ true → p ≡ true → q ≡ true
unless true q e h = e
unless false q e h = cc h

pub all_by_test : {X : Type 0} (p : X → Bool) (P : X → Type 0) → ((x : X) → p x ≡ true → P x) → (xs : List X) → list_all p xs ≡ true → All P xs
all_by_test p P f xs e = λ k d l. f (get_or xs k d) (AllPass-from_list_all p xs e k d l)

abbrev pub pairs : {X : Type 0} → (X → X → Bool) → List X → Bool
pairs p [] = true
pairs p (x ∷ xs) = list_all (p x) xs && pairs p xs

pub pairs_by_test : {X : Type 0} (p : X → X → Bool) (R : X → X → Type 0) → ((x y : X) → p x y ≡ true → R x y) → (xs : List X) → pairs p xs ≡ true → AllPairs R xs
pairs_by_test p R f [] e i j d l m = absurd (omega (arith, m))
pairs_by_test p R f (x ∷ xs) e zero (suc j) d l m = f x (get_or xs j d) (AllPass-from_list_all (p x) xs (and_parts (list_all (p x) xs) (pairs p xs) e).0 j d (omega (arith, m)))
pairs_by_test p R f (x ∷ xs) e (suc i) (suc j) d l m = pairs_by_test p R f xs (and_parts (list_all (p x) xs) (pairs p xs) e).1 i j d (omega (arith, l)) (omega (arith, m))
pairs_by_test p R f (x ∷ xs) e i zero d l m = absurd (omega (arith, l))

-- an eating table
pub table_by_tests : (market : Market) (D : ℕ) (e : List ℕ) → nat_le 1 D ≡ true → length e ≡ length market.limits
    → below (λ j. nat_le (moment_at e j) D) (length e) ≡ true
    → below (λ j. below (λ t. nat_lt (eaten_by market D e (limit_cells market j) t) (limit_ceiling market j * D)) (moment_at e j)) (length e) ≡ true
    → below (λ j. nat_le (eaten_by market D e (limit_cells market j) (moment_at e j)) (limit_ceiling market j * D)) (length e) ≡ true
    → below (λ j. not (nat_lt (moment_at e j) D) || (eaten_by market D e (limit_cells market j) (moment_at e j) == limit_ceiling market j * D)) (length e) ≡ true
    → IsEatingTable market D e
table_by_tests market D e a b c d k f = record {
  positive = leb-true 1 D a;
  size = b;
  within = λ j l. leb-true (moment_at e j) D (below_at (λ j. nat_le (moment_at e j) D) (length e) j c l);
  before = λ j t l m. ltb-true (eaten_by market D e (limit_cells market j) t) (limit_ceiling market j * D)
      (below_at (λ t. nat_lt (eaten_by market D e (limit_cells market j) t) (limit_ceiling market j * D)) (moment_at e j) t (below_at (λ j. below (λ t. nat_lt (eaten_by market D e (limit_cells market j) t) (limit_ceiling market j * D)) (moment_at e j)) (length e) j d l) m);
  kept = λ j l. leb-true (eaten_by market D e (limit_cells market j) (moment_at e j)) (limit_ceiling market j * D) (below_at (λ j. nat_le (eaten_by market D e (limit_cells market j) (moment_at e j)) (limit_ceiling market j * D)) (length e) j k l);
  full = λ j l m. eqb-true (eaten_by market D e (limit_cells market j) (moment_at e j)) (limit_ceiling market j * D)
      (unless (nat_lt (moment_at e j) D) (eaten_by market D e (limit_cells market j) (moment_at e j) == limit_ceiling market j * D) (below_at (λ j. not (nat_lt (moment_at e j) D) || (eaten_by market D e (limit_cells market j) (moment_at e j) == limit_ceiling market j * D)) (length e) j f l) (lt-ltb (moment_at e j) D m));
}

-- a table up to a moment
pub partial_by_tests : (market : Market) (D m : ℕ) (e : List ℕ) → nat_lt m D ≡ true → length e ≡ length market.limits
    → below (λ j. nat_le (moment_at e j) m || (moment_at e j == D)) (length e) ≡ true
    → (j : ℕ) × (j < length e) × (moment_at e j ≡ m)
    → below (λ j. below (λ t. not (nat_lt t (moment_at e j)) || nat_lt (eaten_by market D e (limit_cells market j) t) (limit_ceiling market j * D)) (suc m)) (length e) ≡ true
    → below (λ j. not (nat_le (moment_at e j) m) || (eaten_by market D e (limit_cells market j) (moment_at e j) == limit_ceiling market j * D)) (length e) ≡ true
    → IsPartialTable market D m e
partial_by_tests market D m e a b c some d f = record {
  before_end = ltb-true m D a;
  size = b;
  said = λ j l. elim (or_cases (nat_le (moment_at e j) m) (moment_at e j == D) (below_at (λ j. nat_le (moment_at e j) m || (moment_at e j == D)) (length e) j c l)) [
    | inl early ↦ inl (leb-true (moment_at e j) m early)
    | inr later ↦ inr (eqb-true (moment_at e j) D later)
  ];
  some = some;
  before = λ j t l n k.
      let row = below_at (λ j. below (λ t. not (nat_lt t (moment_at e j)) || nat_lt (eaten_by market D e (limit_cells market j) t) (limit_ceiling market j * D)) (suc m)) (length e) j d l in
      let place = below_at (λ t. not (nat_lt t (moment_at e j)) || nat_lt (eaten_by market D e (limit_cells market j) t) (limit_ceiling market j * D)) (suc m) t row (omega (arith, n)) in
      ltb-true (eaten_by market D e (limit_cells market j) t) (limit_ceiling market j * D) (unless (nat_lt t (moment_at e j)) (nat_lt (eaten_by market D e (limit_cells market j) t) (limit_ceiling market j * D)) place (lt-ltb t (moment_at e j) k));
  full = λ j l n. eqb-true (eaten_by market D e (limit_cells market j) (moment_at e j)) (limit_ceiling market j * D)
      (unless (nat_le (moment_at e j) m) (eaten_by market D e (limit_cells market j) (moment_at e j) == limit_ceiling market j * D) (below_at (λ j. not (nat_le (moment_at e j) m) || (eaten_by market D e (limit_cells market j) (moment_at e j) == limit_ceiling market j * D)) (length e) j f l) (le-leb (moment_at e j) m n));
}

-- two neighbouring moments leave no common divisor
pub lowest_by_neighbours : (D : ℕ) (e : List ℕ) (j k : ℕ) → j < length e → k < length e → moment_at e k - moment_at e j ≡ 1 → IsLowestTerms D e
lowest_by_neighbours D e j k l m h = record {
  lowest = λ f whole each. le_of_dvd (omega arith) (subst (λ n. f ∣ n) h (dvd-sub f (each k m) (each j l)));
}

-- an assignment of a table
pub assignment_by_tests : (columns : ℕ) (market : Market) (D : ℕ) (e : List ℕ) (x : ScaledValue) → x.agents ≡ length market.agents → x.columns ≡ columns
    → length x.units ≡ x.agents * x.columns → x.denominator ≡ D
    → below (λ i. below (λ a. unit_at x.columns x.units (cell_of i a) == share market D e i a) x.columns) x.agents ≡ true
    → IsAssignmentOf columns market D e x
assignment_by_tests columns market D e x rows width shape a b = record {
  agents = rows;
  columns = width;
  shape = shape;
  denominator = a;
  units = λ i a l m. eqb-true (unit_at x.columns x.units (cell_of i a)) (share market D e i a)
      (below_at (λ a. unit_at x.columns x.units (cell_of i a) == share market D e i a) x.columns a (below_at (λ i. below (λ a. unit_at x.columns x.units (cell_of i a) == share market D e i a) x.columns) x.agents i b l) m);
}

-- a matrix of units at each cell of a table, and 0 elsewhere
unlisted : (p : ProblemValue) (x : ScaledValue) → length x.units ≡ x.agents * x.columns
    → below (λ i. below (λ a. holds (listed_cells p) (cell_of i a) || (unit_at x.columns x.units (cell_of i a) == 0)) x.columns) x.agents ≡ true
    → (c : Cell) → holds (listed_cells p) c ≡ false → units_of x c ≡ 0
unlisted p x shape e c off = elim (cases_lt c.object x.columns) [
  | inr past ↦ unit_at_past x.columns x.units c past
  | inl within ↦ elim (cases_lt c.agent x.agents) [
    | inr over ↦ unit_at_within x.columns x.units c within ∙ get_or_past x.units (cell_index x.columns c) 0 (beyond over)
    | inl inside ↦ elim (or_cases (holds (listed_cells p) c) (unit_at x.columns x.units c == 0)
        (below_at (λ a. holds (listed_cells p) (cell_of c.agent a) || (unit_at x.columns x.units (cell_of c.agent a) == 0)) x.columns c.object
        (below_at (λ i. below (λ a. holds (listed_cells p) (cell_of i a) || (unit_at x.columns x.units (cell_of i a) == 0)) x.columns) x.agents c.agent e inside) within)) [
          | inl on ↦ absurd (both_ways (holds (listed_cells p) c) off on)
          | inr nothing ↦ eqb-true (unit_at x.columns x.units c) 0 nothing
        ]
  ]
]
  where
    beyond : x.agents ≤ c.agent → length x.units ≤ cell_index x.columns c
    beyond over = omega (arith, shape, mul-le-mul_right x.columns over)

-- a random assignment
pub random_by_tests : (p : ProblemValue) (x : ScaledValue) → nat_le 1 x.denominator ≡ true → length x.units ≡ x.agents * x.columns
    → below (λ i. row_sum (units_of x) (column_count p) i == demand_at p i * x.denominator) (length p.agents) ≡ true
    → below (λ i. below (λ a. holds (listed_cells p) (cell_of i a) || (unit_at x.columns x.units (cell_of i a) == 0)) x.columns) x.agents ≡ true
    → list_all (λ s. nat_le (set_sum (units_of x) s.cells) (s.ceiling * x.denominator)) (limits_of p) ≡ true
    → IsRandomAssignment p x.denominator (units_of x)
random_by_tests p x a shape rows off kept = record {
  one = leb-true 1 x.denominator a;
  rows = λ i l. eqb-true (row_sum (units_of x) (column_count p) i) (demand_at p i * x.denominator) (below_at (λ i. row_sum (units_of x) (column_count p) i == demand_at p i * x.denominator) (length p.agents) i rows l);
  listed = unlisted p x shape off;
  kept = all_by_test (λ s. nat_le (set_sum (units_of x) s.cells) (s.ceiling * x.denominator)) (λ s. set_sum (units_of x) s.cells ≤ s.ceiling * x.denominator)
      (λ s. leb-true (set_sum (units_of x) s.cells) (s.ceiling * x.denominator)) (limits_of p) kept;
}

-- one assignment dominates another
pub dominance_by_tests : (p : ProblemValue) (d : ℕ) (x : Cell → ℕ) (e : ℕ) (y : Cell → ℕ)
    → below (λ i. below (λ k. nat_le (d * prefix_sum y i (list_at p i) k) (e * prefix_sum x i (list_at p i) k)) (suc (length (list_at p i)))) (length p.agents) ≡ true
    → (i : ℕ) × (k : ℕ) × (i < length p.agents) × (k ≤ length (list_at p i)) × (d * prefix_sum y i (list_at p i) k < e * prefix_sum x i (list_at p i) k)
    → Dominates p d x e y
dominance_by_tests p d x e y each more = record {
  each = λ i k l m. leb-true (d * prefix_sum y i (list_at p i) k) (e * prefix_sum x i (list_at p i) k)
      (below_at (λ k. nat_le (d * prefix_sum y i (list_at p i) k) (e * prefix_sum x i (list_at p i) k)) (suc (length (list_at p i))) k
      (below_at (λ i. below (λ k. nat_le (d * prefix_sum y i (list_at p i) k) (e * prefix_sum x i (list_at p i) k)) (suc (length (list_at p i)))) (length p.agents) i each l) (omega (arith, m)));
  more = more;
}

-- worths that fall
abbrev falls_from : ℤ → List ℤ → Bool
falls_from before [] = true
falls_from before (w ∷ ws) = int_lt w before && falls_from w ws

abbrev pub falls : List ℤ → Bool
falls [] = true
falls (w ∷ ws) = falls_from w ws

falls_from_by_test : (before : ℤ) (ws : List ℤ) → falls_from before ws ≡ true → FallsFrom before ws
falls_from_by_test before [] e = tt
falls_from_by_test before (w ∷ ws) e = let parts = and_parts (int_lt w before) (falls_from w ws) e in let first : w <ℤ before = grind (arith, ints, parts.0) in (first, falls_from_by_test w ws parts.1)

falls_by_test : (ws : List ℤ) → falls ws ≡ true → Falls ws
falls_by_test [] e = tt
falls_by_test (w ∷ ws) e = falls_from_by_test w ws e

-- the price of a set that isn't full
abbrev pub is_priced_well : ProblemValue → ℕ → (Cell → ℕ) → PricesValue → ℕ → Bool
is_priced_well p d x y s = not (nat_lt (set_sum x (slice_index_or (stated_sets p) s no_set).cells) ((slice_index_or (stated_sets p) s no_set).ceiling * d)) || (slice_index y.price s == 0)

-- a place k against a place j
abbrev pub is_best : ProblemValue → ℕ → (Cell → ℕ) → PricesValue → ℕ → ℕ → ℕ → Bool
is_best p d x y i k j = not (nat_lt 0 (x (place_cell p i k)))
    || (not (not (is_left_out p d x (place_cell p i j))) || int_le (worth_at y i j +ℤ pos (cell_price p y (place_cell p i k))) (worth_at y i k +ℤ pos (cell_price p y (place_cell p i j))))

-- a certificate
pub certificate_by_tests : (p : ProblemValue) (d : ℕ) (x : Cell → ℕ) (y : PricesValue)
    → length y.price ≡ length (stated_sets p) → length y.worth ≡ length p.lists
    → below (λ i. length (worths_of y i) == length (list_at p i)) (length p.lists) ≡ true
    → list_all falls y.worth ≡ true
    → below (is_priced_well p d x y) (length (stated_sets p)) ≡ true
    → below (λ i. below (λ k. below (is_best p d x y i k) (length (list_at p i))) (length (list_at p i))) (length p.agents) ≡ true
    → Certifies p d x y
certificate_by_tests p d x y a b c e f g = record {
  shape = record { prices = a; lists = b; places = λ i l. eqb-true (length (worths_of y i)) (length (list_at p i)) (below_at (λ i. length (worths_of y i) == length (list_at p i)) (length p.lists) i c l) };
  fall = all_by_test falls Falls falls_by_test y.worth e;
  full = λ s q found short.
      let here : slice_index_or (stated_sets p) s no_set ≡ q = get_or_from_slice_get (stated_sets p) s q no_set found in
      let test = below_at (is_priced_well p d x y) (length (stated_sets p)) s f (slice_get_within (stated_sets p) s q found) in
      let lacks : nat_lt (set_sum x (slice_index_or (stated_sets p) s no_set).cells) ((slice_index_or (stated_sets p) s no_set).ceiling * d) ≡ true = subst (λ (r : SetValue). nat_lt (set_sum x r.cells) (r.ceiling * d) ≡ true) (sym here) (lt-ltb (set_sum x q.cells) (q.ceiling * d) short) in
      eqb-true (slice_index y.price s) 0 (unless (nat_lt (set_sum x (slice_index_or (stated_sets p) s no_set).cells) ((slice_index_or (stated_sets p) s no_set).ceiling * d)) (slice_index y.price s == 0) test lacks);
  best = λ i k j l m n eaten kept.
      let row = below_at (λ i. below (λ k. below (is_best p d x y i k) (length (list_at p i))) (length (list_at p i))) (length p.agents) i g l in
      let place = below_at (λ k. below (is_best p d x y i k) (length (list_at p i))) (length (list_at p i)) k row m in
      let pair = below_at (is_best p d x y i k) (length (list_at p i)) j place n in
      at_most (worth_at y i j +ℤ pos (cell_price p y (place_cell p i k))) (worth_at y i k +ℤ pos (cell_price p y (place_cell p i j)))
      (unless (not (is_left_out p d x (place_cell p i j))) (int_le (worth_at y i j +ℤ pos (cell_price p y (place_cell p i k))) (worth_at y i k +ℤ pos (cell_price p y (place_cell p i j))))
      (unless (nat_lt 0 (x (place_cell p i k))) (not (not (is_left_out p d x (place_cell p i j))) || int_le (worth_at y i j +ℤ pos (cell_price p y (place_cell p i k))) (worth_at y i k +ℤ pos (cell_price p y (place_cell p i j)))) pair (lt-ltb 0 (x (place_cell p i k)) eaten)) (ap not kept));
}
  where
    at_most : (v w : ℤ) → int_le v w ≡ true → v ≤ℤ w
    at_most v w e = grind (arith, ints, e)

-- a rounded number
abbrev pub is_rounded : ℕ → ℕ → ℕ → Bool
is_rounded y d m = (m == y / d) || (m == (y + d - 1) / d)

rounded_by_test : (y d m : ℕ) → is_rounded y d m ≡ true → IsRounded y d m
rounded_by_test y d m e = elim (or_cases (m == y / d) (m == (y + d - 1) / d) e) [
  | inl down ↦ inl (eqb-true m (y / d) down)
  | inr up ↦ inr (eqb-true m ((y + d - 1) / d) up)
]

-- a matrix that rounds
abbrev pub rounds : ℕ → List (List Cell) → List ℕ → ℕ → List ℕ → Bool
rounds columns sets y d m = (length m == length y)
    && (below (λ i. is_rounded (slice_index y i) d (slice_index m i)) (length y) && list_all (λ s. is_rounded (set_sum (unit_at columns y) s) d (set_sum (unit_at columns m) s)) sets)

rounds_by_test : (columns : ℕ) (sets : List (List Cell)) (y : List ℕ) (d : ℕ) (m : List ℕ) → rounds columns sets y d m ≡ true → Rounds columns sets y d m
rounds_by_test columns sets y d m e =
    let cells = below (λ i. is_rounded (slice_index y i) d (slice_index m i)) (length y) in
    let sums = list_all (λ s. is_rounded (set_sum (unit_at columns y) s) d (set_sum (unit_at columns m) s)) sets in
    let parts = and_parts (length m == length y) (cells && sums) e in
    let later = and_parts cells sums parts.1 in
    record {
      shape = eqb-true (length m) (length y) parts.0;
      cells = λ i l. rounded_by_test (slice_index y i) d (slice_index m i) (below_at (λ i. is_rounded (slice_index y i) d (slice_index m i)) (length y) i later.0 l);
      sums = all_by_test (λ s. is_rounded (set_sum (unit_at columns y) s) d (set_sum (unit_at columns m) s)) (λ s. IsRounded (set_sum (unit_at columns y) s) d (set_sum (unit_at columns m) s))
          (λ s. rounded_by_test (set_sum (unit_at columns y) s) d (set_sum (unit_at columns m) s)) sets later.1;
    }

-- pieces that decompose a matrix
pub decomposition_by_tests : (columns : ℕ) (sets : List (List Cell)) (x : List ℕ) (d : ℕ) (ps : List WeightedMatrix)
    → list_all (λ p. nat_le 1 p.weight) ps ≡ true → sum_by (λ p. p.weight) ps ≡ d
    → below (λ i. sum_by (λ p. p.weight * slice_index p.matrix i) ps == slice_index x i) (length x) ≡ true
    → list_all (λ p. rounds columns sets x d p.matrix) ps ≡ true
    → pairs (λ p q. not (bytes_eq p.matrix q.matrix)) ps ≡ true
    → nat_le (length ps) (fractional_count columns sets x d + 1) ≡ true
    → Decomposes columns sets x d ps
decomposition_by_tests columns sets x d ps a b c e f g = record {
  weights = all_by_test (λ p. nat_le 1 p.weight) (λ p. 1 ≤ p.weight) (λ p. leb-true 1 p.weight) ps a;
  adds_up = b;
  cells = λ i l. eqb-true (sum_by (λ p. p.weight * slice_index p.matrix i) ps) (slice_index x i) (below_at (λ i. sum_by (λ p. p.weight * slice_index p.matrix i) ps == slice_index x i) (length x) i c l);
  rounded = all_by_test (λ p. rounds columns sets x d p.matrix) (λ p. Rounds columns sets x d p.matrix) (λ p. rounds_by_test columns sets x d p.matrix) ps e;
  distinct = pairs_by_test (λ p q. not (bytes_eq p.matrix q.matrix)) (λ p q. p.matrix ≢ q.matrix) (λ p q t same. both_ways (bytes_eq p.matrix q.matrix) (not-true (bytes_eq p.matrix q.matrix) t) ((bytes_eq-Decides p.matrix q.matrix).1 same)) ps f;
  few = leb-true (length ps) (fractional_count columns sets x d + 1) g;
}

-- s is the number of a set
abbrev is_set : FamilyValue → ℕ → Bool
is_set f s = nat_lt 0 s && nat_le s (length f.sets)

abbrev is_above : FamilyValue → ℕ → ℕ → Bool
is_above f s t = is_set f t && ((set_side f s == set_side f t) && (is_subset (set_cells f s) (set_cells f t)
    && (nat_lt (set_size f s) (set_size f t) || (is_subset (set_cells f t) (set_cells f s) && nat_lt s t))))

abbrev is_holder : FamilyValue → ℕ → Cell → ℕ → Bool
is_holder f side c s = is_set f s && ((set_side f s == side) && holds (set_cells f s) c)

is_set_by_test : (f : FamilyValue) (s : ℕ) → is_set f s ≡ true → IsSet f s
is_set_by_test f s e = let parts = and_parts (nat_lt 0 s) (nat_le s (length f.sets)) e in (ltb-true 0 s parts.0, leb-true s (length f.sets) parts.1)

is_set_test : (f : FamilyValue) (s : ℕ) → IsSet f s → is_set f s ≡ true
is_set_test f s h = and_from (nat_lt 0 s) (nat_le s (length f.sets)) (lt-ltb 0 s h.0) (le-leb s (length f.sets) h.1)

pub is_above_by_test : (f : FamilyValue) (s t : ℕ) → is_above f s t ≡ true → IsAbove f s t
is_above_by_test f s t e =
    let last = nat_lt (set_size f s) (set_size f t) || (is_subset (set_cells f t) (set_cells f s) && nat_lt s t) in
    let one = and_parts (is_set f t) ((set_side f s == set_side f t) && (is_subset (set_cells f s) (set_cells f t) && last)) e in
    let two = and_parts (set_side f s == set_side f t) (is_subset (set_cells f s) (set_cells f t) && last) one.1 in
    let three = and_parts (is_subset (set_cells f s) (set_cells f t)) last two.1 in
    record {
      known = is_set_by_test f t one.0;
      sides = eqb-true (set_side f s) (set_side f t) two.0;
      contains = three.0;
      beyond = elim (or_cases (nat_lt (set_size f s) (set_size f t)) (is_subset (set_cells f t) (set_cells f s) && nat_lt s t) three.1) [
        | inl less ↦ inl (ltb-true (set_size f s) (set_size f t) less)
        | inr equal ↦ (let parts = and_parts (is_subset (set_cells f t) (set_cells f s)) (nat_lt s t) equal in inr (parts.0, ltb-true s t parts.1))
      ];
    }

is_above_test : (f : FamilyValue) (s t : ℕ) → IsAbove f s t → is_above f s t ≡ true
is_above_test f s t h =
    let last = nat_lt (set_size f s) (set_size f t) || (is_subset (set_cells f t) (set_cells f s) && nat_lt s t) in
    let beyond : last ≡ true = elim h.beyond [
      | inl less ↦ or_left (nat_lt (set_size f s) (set_size f t)) (is_subset (set_cells f t) (set_cells f s) && nat_lt s t) (lt-ltb (set_size f s) (set_size f t) less)
      | inr equal ↦ or_right (nat_lt (set_size f s) (set_size f t)) (is_subset (set_cells f t) (set_cells f s) && nat_lt s t)
          (and_from (is_subset (set_cells f t) (set_cells f s)) (nat_lt s t) (equal.0) (lt-ltb s t equal.1))
    ] in
    and_from (is_set f t) ((set_side f s == set_side f t) && (is_subset (set_cells f s) (set_cells f t) && last)) (is_set_test f t h.known)
    (and_from (set_side f s == set_side f t) (is_subset (set_cells f s) (set_cells f t) && last) (eq-eqb (set_side f s) (set_side f t) h.sides)
    (and_from (is_subset (set_cells f s) (set_cells f t)) last (h.contains) beyond))

is_holder_by_test : (f : FamilyValue) (side : ℕ) (c : Cell) (s : ℕ) → is_holder f side c s ≡ true → IsHolder f side c s
is_holder_by_test f side c s e =
    let one = and_parts (is_set f s) ((set_side f s == side) && holds (set_cells f s) c) e in
    let two = and_parts (set_side f s == side) (holds (set_cells f s) c) one.1 in
    (is_set_by_test f s one.0, eqb-true (set_side f s) side two.0, two.1)

is_holder_test : (f : FamilyValue) (side : ℕ) (c : Cell) (s : ℕ) → IsHolder f side c s → is_holder f side c s ≡ true
is_holder_test f side c s h =
    and_from (is_set f s) ((set_side f s == side) && holds (set_cells f s) c) (is_set_test f s h.0)
    (and_from (set_side f s == side) (holds (set_cells f s) c) (eq-eqb (set_side f s) side h.1) (h.2))

-- the least number that a test lets through, by size and then number
abbrev is_least : FamilyValue → (ℕ → Bool) → ℕ → Bool
is_least f p t = below (λ u. not (p u) || ((u == t) || is_lower f t u)) (suc (length f.sets))

least_by_test : (f : FamilyValue) (p : ℕ → Bool) (t : ℕ) → is_least f p t ≡ true → (u : ℕ) → IsSet f u → p u ≡ true → (u ≡ t) ⊎ IsLower f t u
least_by_test f p t e u known h =
    let test = unless (p u) ((u == t) || is_lower f t u) (below_at (λ u. not (p u) || ((u == t) || is_lower f t u)) (suc (length f.sets)) u e (omega (arith, known.1))) h in
    elim (or_cases (u == t) (is_lower f t u) test) [
      | inl same ↦ inl (eqb-true u t same)
      | inr above ↦ inr (lower_true f t u above)
    ]

abbrev is_none_of : FamilyValue → (ℕ → Bool) → Bool
is_none_of f p = below (λ u. not (p u)) (suc (length f.sets))

none_by_test : (f : FamilyValue) (p : ℕ → Bool) → is_none_of f p ≡ true → (u : ℕ) → IsSet f u → p u ≡ true → ⊥
none_by_test f p e u known h = both_ways (p u) (not-true (p u) (below_at (λ u. not (p u)) (suc (length f.sets)) u e (omega (arith, known.1)))) h

-- the entry of a set in the table of parents
abbrev is_parent_entry : FamilyValue → ℕ → Option ℕ → Bool
is_parent_entry f s None = (set_size f s == 0) || is_none_of f (is_above f s)
is_parent_entry f s (Some p) = nat_lt 0 (set_size f s) && (is_above f s p && is_least f (is_above f s) p)

parent_by_test : (f : FamilyValue) (s : ℕ) (o : Option ℕ) → is_parent_entry f s o ≡ true → MatchOption o (HasNoParent f s) (IsParent f s)
parent_by_test f s None e = elim (or_cases (set_size f s == 0) (is_none_of f (is_above f s)) e) [
  | inl empty ↦ inl (eqb-true (set_size f s) 0 empty)
  | inr top ↦ inr (λ t h. none_by_test f (is_above f s) top t h.known (is_above_test f s t h))
]
parent_by_test f s (Some p) e =
    let one = and_parts (nat_lt 0 (set_size f s)) (is_above f s p && is_least f (is_above f s) p) e in
    let two = and_parts (is_above f s p) (is_least f (is_above f s) p) one.1 in
    record {
      filled = ltb-true 0 (set_size f s) one.0;
      above = is_above_by_test f s p two.0;
      least = λ t h. least_by_test f (is_above f s) p two.1 t h.known (is_above_test f s t h);
    }

-- the entry of a cell in the table of deepest sets
abbrev is_deepest_entry : FamilyValue → ℕ → Cell → Option ℕ → Bool
is_deepest_entry f side c None = is_none_of f (is_holder f side c)
is_deepest_entry f side c (Some t) = is_holder f side c t && is_least f (is_holder f side c) t

deepest_by_test : (f : FamilyValue) (side : ℕ) (c : Cell) (o : Option ℕ) → is_deepest_entry f side c o ≡ true → MatchOption o ((u : ℕ) → IsHolder f side c u → ⊥) (IsDeepest f side c)
deepest_by_test f side c None e = λ u h. none_by_test f (is_holder f side c) e u h.0 (is_holder_test f side c u h)
deepest_by_test f side c (Some t) e =
    let parts = and_parts (is_holder f side c t) (is_least f (is_holder f side c) t) e in
    let holder = is_holder_by_test f side c t parts.0 in
    record { known = holder.0; sides = holder.1; holds = holder.2; least = λ u h. least_by_test f (is_holder f side c) t parts.1 u h.0 (is_holder_test f side c u h) }

-- no two sets of one side cross
abbrev is_apart : List (List Cell) → List ℕ → Bool
is_apart sets sides = below (λ a. below (λ b. not (slice_index sides a == slice_index sides b) || not (crosses (cells_at sets (a + 1)) (cells_at sets (b + 1)))) (length sets)) (length sets)

pub apart_by_test : (sets : List (List Cell)) (sides : List ℕ) → is_apart sets sides ≡ true → NoCrossing sets sides
apart_by_test sets sides e s t known knows same cross =
    let a : s - 1 + 1 ≡ s = omega (arith, known.0) in
    let b : t - 1 + 1 ≡ t = omega (arith, knows.0) in
    let row = below_at (λ a. below (λ b. not (slice_index sides a == slice_index sides b) || not (crosses (cells_at sets (a + 1)) (cells_at sets (b + 1)))) (length sets)) (length sets) (s - 1) e (omega (arith, known.0, known.1)) in
    let pair = below_at (λ b. not (slice_index sides (s - 1) == slice_index sides b) || not (crosses (cells_at sets (s - 1 + 1)) (cells_at sets (b + 1)))) (length sets) (t - 1) row (omega (arith, knows.0, knows.1)) in
    let free = unless (slice_index sides (s - 1) == slice_index sides (t - 1)) (not (crosses (cells_at sets (s - 1 + 1)) (cells_at sets (t - 1 + 1)))) pair (eq-eqb (slice_index sides (s - 1)) (slice_index sides (t - 1)) same) in
    both_ways (crosses (cells_at sets s) (cells_at sets t)) (not-true (crosses (cells_at sets s) (cells_at sets t)) (rw (a, b) at free)) (cross)

-- trees of a family
pub trees_by_tests : (f : FamilyValue) (t : TreesValue) → is_apart (cells_of f) (sides_of f) ≡ true
    → t.sets ≡ length f.sets → t.agents ≡ f.agents → t.columns ≡ f.columns
    → below (λ a. is_parent_entry f (a + 1) (parent_at t (a + 1))) (length f.sets) ≡ true
    → below (λ i. below (λ a. is_deepest_entry f 1 (cell_of i a) (deepest_at t 1 (cell_of i a))) f.columns) f.agents ≡ true
    → below (λ i. below (λ a. is_deepest_entry f 2 (cell_of i a) (deepest_at t 2 (cell_of i a))) f.columns) f.agents ≡ true
    → AreTreesOf f t
trees_by_tests f t a b c d e one two = record {
  apart = bihierarchy_of_apart f (apart_by_test (cells_of f) (sides_of f) a);
  sets = b;
  agents = c;
  columns = d;
  parents = λ s known.
      let same : s - 1 + 1 ≡ s = omega (arith, known.0) in
      parent_by_test f s (parent_at t s) (subst (λ n. is_parent_entry f n (parent_at t n) ≡ true) same (below_at (λ a. is_parent_entry f (a + 1) (parent_at t (a + 1))) (length f.sets) (s - 1) e (omega (arith, known.0, known.1))));
  deepest = λ side cell known within. deepest_by_test f side cell (deepest_at t side cell) (elim known [
    | inl first ↦ subst (λ n. is_deepest_entry f n cell (deepest_at t n cell) ≡ true) (sym first) (entry 1 cell one within)
    | inr second ↦ subst (λ n. is_deepest_entry f n cell (deepest_at t n cell) ≡ true) (sym second) (entry 2 cell two within)
  ]);
}
  where
    entry : (side : ℕ) (cell : Cell) → below (λ i. below (λ a. is_deepest_entry f side (cell_of i a) (deepest_at t side (cell_of i a))) f.columns) f.agents ≡ true
        → (cell.agent < f.agents) × (cell.object < f.columns) → is_deepest_entry f side cell (deepest_at t side cell) ≡ true
    entry side cell h within =
        below_at (λ a. is_deepest_entry f side (cell_of cell.agent a) (deepest_at t side (cell_of cell.agent a))) f.columns cell.object
        (below_at (λ i. below (λ a. is_deepest_entry f side (cell_of i a) (deepest_at t side (cell_of i a))) f.columns) f.agents cell.agent h within.0) within.1

no_member : {X : Type 0} (p : X → Bool) (xs : List X) → list_all (λ x. not (p x)) xs ≡ true → list_any p xs ≡ false
no_member p [] e = refl
no_member p (x ∷ xs) e = let parts = and_parts (not (p x)) (list_all (λ x. not (p x)) xs) e in or_from (p x) (list_any p xs) (not-true (p x) parts.0) (no_member p xs parts.1)

-- a list without repeats
pub distinct_by_test : {X : Type 0} (same : X → X → Bool) (xs : List X) → pairs (λ x y. not (same x y)) xs ≡ true → IsDistinct same xs
distinct_by_test same [] e = distinct_none same
distinct_by_test same (x ∷ xs) e =
    let parts = and_parts (list_all (λ y. not (same x y)) xs) (pairs (λ x y. not (same x y)) xs) e in
    distinct_more same x xs (no_member (same x) xs parts.0) (distinct_by_test same xs parts.1)

abbrev is_before : Cell → Cell → Bool
is_before a b = nat_lt a.agent b.agent || ((a.agent == b.agent) && nat_lt a.object b.object)

before_by_test : (a b : Cell) → is_before a b ≡ true → IsBefore a b
before_by_test a b e = elim (or_cases (nat_lt a.agent b.agent) ((a.agent == b.agent) && nat_lt a.object b.object) e) [
  | inl up ↦ inl (ltb-true a.agent b.agent up)
  | inr level ↦ (let parts = and_parts (a.agent == b.agent) (nat_lt a.object b.object) level in inr (eqb-true a.agent b.agent parts.0, ltb-true a.object b.object parts.1))
]

abbrev is_quota_set : SetValue → Bool
is_quota_set s = ((s.side == 1) || (s.side == 2)) && (pairs is_before s.cells && (nat_le s.floor s.ceiling && nat_le s.ceiling 1000))

quota_set_by_test : (s : SetValue) → is_quota_set s ≡ true → IsQuotaSet s
quota_set_by_test s e =
    let one = and_parts ((s.side == 1) || (s.side == 2)) (pairs is_before s.cells && (nat_le s.floor s.ceiling && nat_le s.ceiling 1000)) e in
    let two = and_parts (pairs is_before s.cells) (nat_le s.floor s.ceiling && nat_le s.ceiling 1000) one.1 in
    let three = and_parts (nat_le s.floor s.ceiling) (nat_le s.ceiling 1000) two.1 in
    record {
      side = elim (or_cases (s.side == 1) (s.side == 2) one.0) [
        | inl first ↦ inl (eqb-true s.side 1 first)
        | inr second ↦ inr (eqb-true s.side 2 second)
      ];
      rise = pairs_by_test is_before IsBefore before_by_test s.cells two.0;
      quotas = leb-true s.floor s.ceiling three.0;
      limit = leb-true s.ceiling 1000 three.1;
    }

abbrev is_within : ℕ → ℕ → Cell → Bool
is_within agents columns c = nat_lt c.agent agents && nat_lt c.object columns

within_by_test : (agents columns : ℕ) (c : Cell) → is_within agents columns c ≡ true → IsCellWithin agents columns c
within_by_test agents columns c e = let parts = and_parts (nat_lt c.agent agents) (nat_lt c.object columns) e in (ltb-true c.agent agents parts.0, ltb-true c.object columns parts.1)

-- a lawful family
pub family_by_tests : (f : FamilyValue) → nat_le f.agents 1000 ≡ true → nat_le f.columns 201 ≡ true → list_all is_quota_set f.sets ≡ true
    → list_all (λ s. list_all (is_within f.agents f.columns) s.cells) f.sets ≡ true → nat_le (length f.sets) 2000 ≡ true → nat_le (cells_in f.sets) 1201000 ≡ true
    → IsFamily f
family_by_tests f a b c d e g = record {
  agents_limit = leb-true f.agents 1000 a;
  columns_limit = leb-true f.columns 201 b;
  lawful = all_by_test is_quota_set IsQuotaSet quota_set_by_test f.sets c;
  inside = all_by_test (λ s. list_all (is_within f.agents f.columns) s.cells) (IsInRange f.agents f.columns)
      (λ s t. all_by_test (is_within f.agents f.columns) (IsCellWithin f.agents f.columns) (within_by_test f.agents f.columns) s.cells t) f.sets d;
  sets_limit = leb-true (length f.sets) 2000 e;
  cells_limit = leb-true (cells_in f.sets) 1201000 g;
}

abbrev is_last : ℕ → Option ℕ → Bool
is_last n None = false
is_last n (Some a) = a == n

last_by_test : (n : ℕ) (o : Option ℕ) → is_last n o ≡ true → o ≡ Some n
last_by_test n None e = cc e
last_by_test n (Some a) e = ap (λ (k : ℕ). Some k) (eqb-true a n e)

abbrev is_list : ℕ → List ℕ → Bool
is_list none list = pairs (λ a b. not (nat_eq a b)) list && (list_all (λ a. nat_le a none) list && is_last none (slice_get list (length list - 1)))

list_by_test : (none : ℕ) (list : List ℕ) → is_list none list ≡ true → IsListUpTo none list
list_by_test none list e =
    let one = and_parts (pairs (λ a b. not (nat_eq a b)) list) (list_all (λ a. nat_le a none) list && is_last none (slice_get list (length list - 1))) e in
    let two = and_parts (list_all (λ a. nat_le a none) list) (is_last none (slice_get list (length list - 1))) one.1 in
    record {
      apart = distinct_by_test nat_eq list one.0;
      known = all_by_test (λ a. nat_le a none) (λ a. a ≤ none) (λ a. leb-true a none) list two.0;
      last = last_by_test none (slice_get list (length list - 1)) two.1;
    }

abbrev is_stated_set : ℕ → SetValue → Bool
is_stated_set none s = (s.side == 2) && ((s.floor == 0) && list_all (λ c. nat_lt c.object none) s.cells)

stated_by_test : (none : ℕ) (s : SetValue) → is_stated_set none s ≡ true → IsStatedSet none s
stated_by_test none s e =
    let one = and_parts (s.side == 2) ((s.floor == 0) && list_all (λ c. nat_lt c.object none) s.cells) e in
    let two = and_parts (s.floor == 0) (list_all (λ c. nat_lt c.object none) s.cells) one.1 in
    record {
      side = eqb-true s.side 2 one.0;
      floor = eqb-true s.floor 0 two.0;
      objects = all_by_test (λ c. nat_lt c.object none) (λ c. c.object < none) (λ c. ltb-true c.object none) s.cells two.1;
    }

abbrev holds_column : ℕ → ℕ → SetValue → Bool
holds_column agents a s = below (λ i. holds s.cells (cell_of i a)) agents

-- a lawful problem
pub problem_by_tests : (p : ProblemValue) → nat_le 1 (length p.agents) ≡ true → nat_le (length p.agents) 1000 ≡ true → pairs (λ a b. not (bytes_eq a b)) p.agents ≡ true
    → nat_le (length p.objects) 200 ≡ true → pairs (λ a b. not (bytes_eq a b)) p.objects ≡ true
    → length p.lists ≡ length p.agents → list_all (is_list (length p.objects)) p.lists ≡ true
    → length p.demands ≡ length p.agents → list_all (λ d. nat_le 1 d) p.demands ≡ true → nat_le (sum p.demands) 1000 ≡ true
    → IsFamily p.family → p.family.agents ≡ length p.agents → p.family.columns ≡ column_count p
    → nat_le p.stated 1000 ≡ true → nat_le (cells_in (stated_sets p)) 1000000 ≡ true → list_all (is_stated_set (length p.objects)) (stated_sets p) ≡ true
    → below (λ a. list_any (holds_column (length p.agents) a) (stated_sets p)) (length p.objects) ≡ true
    → drop p.stated p.family.sets ≡ row_sets (column_count p) p.demands
    → IsProblem p
problem_by_tests p a b c d e f g h i j family k l m n o q r = record {
  agents_some = leb-true 1 (length p.agents) a;
  agents_limit = leb-true (length p.agents) 1000 b;
  agents_apart = distinct_by_test bytes_eq p.agents c;
  objects_limit = leb-true (length p.objects) 200 d;
  objects_apart = distinct_by_test bytes_eq p.objects e;
  lists_many = f;
  lists = all_by_test (is_list (length p.objects)) (IsListUpTo (length p.objects)) (list_by_test (length p.objects)) p.lists g;
  demands_many = h;
  demands = all_by_test (λ d. nat_le 1 d) (λ d. 1 ≤ d) (λ d. leb-true 1 d) p.demands i;
  demands_limit = leb-true (sum p.demands) 1000 j;
  family = family;
  family_agents = k;
  family_columns = l;
  stated_limit = leb-true p.stated 1000 m;
  stated_cells = leb-true (cells_in (stated_sets p)) 1000000 n;
  stated_lawful = all_by_test (is_stated_set (length p.objects)) (IsStatedSet (length p.objects)) (stated_by_test (length p.objects)) (stated_sets p) o;
  columns_stated = λ a within. column (length p.agents) a (stated_sets p) (below_at (λ a. list_any (holds_column (length p.agents) a) (stated_sets p)) (length p.objects) a q within);
  rows = r;
}
  where
    column : (agents a : ℕ) (sets : List SetValue) → list_any (holds_column agents a) sets ≡ true → Any (HoldsColumn agents a) sets
    column agents a sets e =
        let (k, s, l, at, h) = Any-from_list_any (holds_column agents a) sets e in
        (k, s, l, at, λ i within. below_at (λ i. holds s.cells (cell_of i a)) agents i h within)

abbrev is_give : ℕ → ℕ → Give → Bool
is_give agents columns g = nat_lt g.agent agents && (nat_lt g.object columns && (nat_le 1 g.count && nat_le g.count 1000))

-- lawful gives
pub gives_by_tests : (agents columns : ℕ) (gives : List Give)
    → (list_all (is_give agents columns) gives && pairs (λ g h. is_before (cell_of g.agent g.object) (cell_of h.agent h.object)) gives) ≡ true → AreGives agents columns gives
gives_by_tests agents columns gives e =
    let parts = and_parts (list_all (is_give agents columns) gives) (pairs (λ g h. is_before (cell_of g.agent g.object) (cell_of h.agent h.object)) gives) e in (
      all_by_test (is_give agents columns) (λ g. (g.agent < agents) × (g.object < columns) × (1 ≤ g.count) × (g.count ≤ 1000)) give_by_test gives parts.0,
      pairs_by_test (λ g h. is_before (cell_of g.agent g.object) (cell_of h.agent h.object)) (λ g h. IsBefore (cell_of g.agent g.object) (cell_of h.agent h.object)) (λ g h. before_by_test (cell_of g.agent g.object) (cell_of h.agent h.object)) gives parts.1,
    )
  where
    give_by_test : (g : Give) → is_give agents columns g ≡ true → (g.agent < agents) × (g.object < columns) × (1 ≤ g.count) × (g.count ≤ 1000)
    give_by_test g e =
        let one = and_parts (nat_lt g.agent agents) (nat_lt g.object columns && (nat_le 1 g.count && nat_le g.count 1000)) e in
        let two = and_parts (nat_lt g.object columns) (nat_le 1 g.count && nat_le g.count 1000) one.1 in
        let three = and_parts (nat_le 1 g.count) (nat_le g.count 1000) two.1 in
        (ltb-true g.agent agents one.0, ltb-true g.object columns two.0, leb-true 1 g.count three.0, leb-true g.count 1000 three.1)

-- a lawful lottery
pub lottery_by_tests : (l : LotteryValue) → nat_lt 0 l.shares.denominator ≡ true → nat_le l.shares.denominator (2 ^ 116) ≡ true
    → length l.shares.units ≡ l.shares.agents * l.shares.columns → nat_le (sum l.shares.units) (1000 * l.shares.denominator) ≡ true
    → l.shares.agents ≡ length l.agents → l.shares.columns ≡ length l.columns
    → HasPrices l ⊎ HasNoPrices l
    → list_all (λ p. nat_le 1 p.weight) l.pieces ≡ true → sum_by (λ p. p.weight) l.pieces ≡ l.shares.denominator
    → list_all (λ p. list_all (is_give l.shares.agents l.shares.columns) p.gives && pairs (λ g h. is_before (cell_of g.agent g.object) (cell_of h.agent h.object)) p.gives) l.pieces ≡ true
    → IsLottery l
lottery_by_tests l a b c d e f g h i j = record {
  shares = record { one = ltb-true 0 l.shares.denominator a; limit = leb-true l.shares.denominator (2 ^ 116) b; shape = c; total = leb-true (sum l.shares.units) (1000 * l.shares.denominator) d };
  rows = e;
  columns = f;
  priced = g;
  weights = all_by_test (λ p. nat_le 1 p.weight) (λ p. 1 ≤ p.weight) (λ p. leb-true 1 p.weight) l.pieces h;
  adds_up = i;
  gives = all_by_test (λ p. list_all (is_give l.shares.agents l.shares.columns) p.gives && pairs (λ g h. is_before (cell_of g.agent g.object) (cell_of h.agent h.object)) p.gives)
      (λ p. AreGives l.shares.agents l.shares.columns p.gives) (λ p. gives_by_tests l.shares.agents l.shares.columns p.gives) l.pieces j;
}

-- the trees of two columns and three rows, in which no set is above another
abbrev pub small_trees : TreesValue
small_trees = record {
  sets = 5;
  agents = 3;
  columns = 3;
  parents = None ∷ None ∷ None ∷ None ∷ None ∷ [];
  deepest_one = Some 3 ∷ Some 3 ∷ Some 3 ∷ Some 4 ∷ Some 4 ∷ Some 4 ∷ Some 5 ∷ Some 5 ∷ Some 5 ∷ [];
  deepest_two = Some 1 ∷ Some 2 ∷ None ∷ Some 1 ∷ Some 2 ∷ None ∷ Some 1 ∷ Some 2 ∷ None ∷ [];
}
