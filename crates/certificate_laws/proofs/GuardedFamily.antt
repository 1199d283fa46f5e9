-- The guarded family is a bihierarchy: what it adds to side 1 are first places within rows, and these are nested or apart.
use Rattle.std.proofs.Common.{◌≡◌, ℕ, suc, zero, ◌+◌, ◌<◌, ◌≤◌, List, [], ◌∷◌, ◌++◌, map, length, take, refl, ap, sym, ◌∙◌, arith, Bool, true, false, cond, not, ◌||◌, ◌&&◌, inl, inr, filter}
use Rattle.std.specs.Prelude.{nat_eq, nat_lt, flat_map}
use Rattle.std.specs.List.{AllByRecursion, range_with_len, enumerate_from, list_any}
use Rattle.std.specs.Set.{is_member}
use Rattle.std.proofs.lemmas.Bool.{or_cases, or_left, or_right, and_parts, and_from, and_right, both_ways, cases_eq, cases_lt, eqb-true, ltb-true, lt-ltb, le-ltb}
use Rattle.definitions.specs.declared.Cell.{Cell}
use Rattle.definitions.specs.Sets.{cell_of, same_cell, holds, overlaps, is_subset, crosses, row_cells, SetValue, ScaledValue}
use Rattle.definitions.specs.Values.{ProblemValue, column_count, list_at}
use Rattle.definitions.specs.Fairness.{prefix_set}
use Rattle.definitions.proofs.Members.{cell_test, all_from_members, around_apart, within_apart}
use Rattle.definitions.proofs.Cells.{row_member}

-- ---- what crosses

-- sets that hold no common cell don't cross
apart_sets : (a b : List Cell) → ((c : Cell) → holds a c ≡ true → holds b c ≡ true → ⊥) → crosses a b ≡ true → ⊥
apart_sets a b h e = common a (λ c m. m) (and_parts (overlaps a b) (not (is_subset a b) && not (is_subset b a)) e).0
  where
    common : (cells : List Cell) → ((c : Cell) → holds cells c ≡ true → holds a c ≡ true) → list_any (holds b) cells ≡ true → ⊥
    common [] within f = cc
    common (c ∷ cells) within f = elim (or_cases (holds b c) (list_any (holds b) cells) f) [
      | inl here ↦ h c (within c (or_left (same_cell c c) (holds cells c) (cell_test.self c))) here
      | inr later ↦ common cells (λ d m. within d (or_right (same_cell d c) (holds cells d) m)) later
    ]

-- nor do sets of which the first lies within the second, or the second within the first
within_first : (a b : List Cell) → ((c : Cell) → holds a c ≡ true → holds b c ≡ true) → crosses a b ≡ true → ⊥
within_first a b h e = both_ways (crosses a b) (within_apart a b (all_from_members same_cell cell_test (holds b) a h)) e

within_second : (a b : List Cell) → ((c : Cell) → holds b c ≡ true → holds a c ≡ true) → crosses a b ≡ true → ⊥
within_second a b h e = both_ways (crosses a b) (around_apart a b (all_from_members same_cell cell_test (holds a) b h)) e

-- ---- first places

-- a column is among the first k of agent i's list; past the list, each column is
abbrev pub is_first : ProblemValue → ℕ → ℕ → ℕ → Bool
is_first p i k a = nat_lt (length (list_at p i)) k || is_member nat_eq (take k (list_at p i)) a

-- the set holds, of agent i's row, the cells of the first k places
pub record IsFront (p : ProblemValue) (cells : List Cell) : Type 0 where
  pub agent : ℕ
  pub places : ℕ
  pub exact : (c : Cell) → holds cells c ≡ (nat_eq c.agent agent && (is_member nat_eq (range_with_len 0 (column_count p)) c.object && is_first p agent places c.object))

more_members : {X : Type 0} (same : X → X → Bool) (k l : ℕ) (xs : List X) (x : X) → k ≤ l → is_member same (take k xs) x ≡ true → is_member same (take l xs) x ≡ true
more_members same zero l xs x h m = absurd (cc)
more_members same (suc k) zero xs x h m = absurd (omega arith)
more_members same (suc k) (suc l) [] x h m = absurd (cc)
more_members same (suc k) (suc l) (z ∷ xs) x h m = elim (or_cases (same x z) (is_member same (take k xs) x) m) [
  | inl here ↦ or_left (same x z) (is_member same (take l xs) x) here
  | inr later ↦ or_right (same x z) (is_member same (take l xs) x) (more_members same k l xs x (omega arith) later)
]

-- more places have more columns
first_grows : (p : ProblemValue) (i k l a : ℕ) → k ≤ l → is_first p i k a ≡ true → is_first p i l a ≡ true
first_grows p i k l a h m = elim (or_cases (nat_lt (length (list_at p i)) k) (is_member nat_eq (take k (list_at p i)) a) m) [
  | inl past ↦ or_left (nat_lt (length (list_at p i)) l) (is_member nat_eq (take l (list_at p i)) a) (lt-ltb (length (list_at p i)) l (let b : length (list_at p i) < k = ltb-true (length (list_at p i)) k past in omega arith))
  | inr here ↦ or_right (nat_lt (length (list_at p i)) l) (is_member nat_eq (take l (list_at p i)) a) (more_members nat_eq k l (list_at p i) a h here)
]

-- of two fronts of one agent the one with fewer places lies within the other
front_within : (p : ProblemValue) (i k l : ℕ) (a b : List Cell)
    → ((c : Cell) → holds a c ≡ (nat_eq c.agent i && (is_member nat_eq (range_with_len 0 (column_count p)) c.object && is_first p i k c.object)))
    → ((c : Cell) → holds b c ≡ (nat_eq c.agent i && (is_member nat_eq (range_with_len 0 (column_count p)) c.object && is_first p i l c.object)))
    → k ≤ l → (c : Cell) → holds a c ≡ true → holds b c ≡ true
front_within p i k l a b f g h c m =
    let known = is_member nat_eq (range_with_len 0 (column_count p)) c.object in
    let one = and_parts (nat_eq c.agent i) (is_member nat_eq (range_with_len 0 (column_count p)) c.object && is_first p i k c.object) (sym (f c) ∙ m) in
    let two = and_parts (is_member nat_eq (range_with_len 0 (column_count p)) c.object) (is_first p i k c.object) one.1 in
    g c
    ∙ and_from (nat_eq c.agent i) (is_member nat_eq (range_with_len 0 (column_count p)) c.object && is_first p i l c.object) one.0
    (and_from (is_member nat_eq (range_with_len 0 (column_count p)) c.object) (is_first p i l c.object) two.0 (first_grows p i k l c.object h two.1))

-- no two fronts cross
pub fronts_apart : (p : ProblemValue) (a b : List Cell) → IsFront p a → IsFront p b → crosses a b ≡ true → ⊥
fronts_apart p a b f g = elim (cases_eq g.agent f.agent) [
  | inl same ↦ elim (cases_lt g.places f.places) [
    | inl less ↦ within_second a b (front_within p f.agent g.places f.places b a (turned same) f.exact (omega arith))
    | inr more ↦ within_first a b (front_within p f.agent f.places g.places a b f.exact (turned same) more)
  ]
  | inr other ↦ apart_sets a b (λ c m n. other (sym (agent_is g c n) ∙ agent_is f c m))
]
  where
    turned : g.agent ≡ f.agent → (c : Cell) → holds b c ≡ (nat_eq c.agent f.agent && (is_member nat_eq (range_with_len 0 (column_count p)) c.object && is_first p f.agent g.places c.object))
    turned same c = g.exact c ∙ ap (λ i. nat_eq c.agent i && (is_member nat_eq (range_with_len 0 (column_count p)) c.object && is_first p i g.places c.object)) same

    agent_is : {cells : List Cell} (h : IsFront p cells) (c : Cell) → holds cells c ≡ true → c.agent ≡ h.agent
    agent_is h c m = eqb-true c.agent h.agent (and_parts (nat_eq c.agent h.agent) (is_member nat_eq (range_with_len 0 (column_count p)) c.object && is_first p h.agent h.places c.object) (sym (h.exact c) ∙ m)).0

-- ---- the sets of side 1

and_true : (b c : Bool) → c ≡ true → b ≡ (b && c)
and_true true c e = sym e
and_true false c e = refl

-- a row is a front of more places than its list has
row_front : (p : ProblemValue) (i : ℕ) → IsFront p (row_cells (column_count p) i)
row_front p i = record {
  agent = i;
  places = length (list_at p i) + 1;
  exact = λ c. row_member i (range_with_len 0 (column_count p)) c
      ∙ ap (λ b. nat_eq c.agent i && b) (and_true (is_member nat_eq (range_with_len 0 (column_count p)) c.object) (is_first p i (length (list_at p i) + 1) c.object)
      (or_left (nat_lt (length (list_at p i)) (length (list_at p i) + 1)) (is_member nat_eq (take (length (list_at p i) + 1) (list_at p i)) c.object) (lt-ltb (length (list_at p i)) (length (list_at p i) + 1) (omega arith))));
}

-- a part of a row that passes a test of its column
part_member : (i : ℕ) (test : ℕ → Bool) (columns : List ℕ) (c : Cell) → holds (filter (λ d. test d.object) (map (cell_of i) columns)) c ≡ (nat_eq c.agent i && (is_member nat_eq columns c.object && test c.object))
part_member i test [] c = sym (and_right (nat_eq c.agent i) false refl)
part_member i test (a ∷ columns) c =
    here (test a) ∙ ap (λ b. (test a && (nat_eq c.agent i && nat_eq c.object a)) || b) (part_member i test columns c)
    ∙ joined (test a) (nat_eq c.agent i) (nat_eq c.object a) (is_member nat_eq columns c.object) (test c.object) (λ e. ap test (eqb-true c.object a e))
  where
    here : (b : Bool) → holds (cond b (cell_of i a ∷ filter (λ d. test d.object) (map (cell_of i) columns)) (filter (λ d. test d.object) (map (cell_of i) columns))) c
        ≡ ((b && (nat_eq c.agent i && nat_eq c.object a)) || holds (filter (λ d. test d.object) (map (cell_of i) columns)) c)
    here true = refl
    here false = refl

    joined : (t g e m u : Bool) → (e ≡ true → u ≡ t) → ((t && (g && e)) || (g && (m && u))) ≡ (g && ((e || m) && u))
    joined true true true m u h = sym (h refl)
    joined true true false m u h = refl
    joined true false e m u h = refl
    joined false true true m u h = (let n : u ≡ false = h refl in and_right m u n ∙ sym n)
    joined false true false m u h = refl
    joined false false e m u h = refl

-- the set of first places is a front
prefix_front : (p : ProblemValue) (x : ScaledValue) (i k : ℕ) → k ≤ length (list_at p i) → IsFront p (prefix_set p x i k).cells
prefix_front p x i k h = record {
  agent = i;
  places = k;
  exact = λ c. part_member i (λ a. is_member nat_eq (take k (list_at p i)) a) (range_with_len 0 (column_count p)) c
      ∙ ap (λ b. nat_eq c.agent i && (is_member nat_eq (range_with_len 0 (column_count p)) c.object && (b || is_member nat_eq (take k (list_at p i)) c.object))) (sym (le-ltb (length (list_at p i)) k h));
}

-- a set of side 1 that is a front
abbrev pub IsRowSet : ProblemValue → SetValue → Type 0
IsRowSet p s = (s.side ≡ 1) × IsFront p s.cells

pub each_append : {X : Type 0} (P : X → Type 0) (xs ys : List X) → AllByRecursion P xs → AllByRecursion P ys → AllByRecursion P (xs ++ ys)
each_append P [] ys a b = b
each_append P (x ∷ xs) ys a b = (a.0, each_append P xs ys a.1 b)

pub rows_are : (p : ProblemValue) (start : ℕ) (demands : List ℕ)
    → AllByRecursion (IsRowSet p) (map (λ (w : ℕ × ℕ). record { side = 1; floor = w.1; ceiling = w.1; cells = row_cells (column_count p) w.0 }) (enumerate_from start demands))
rows_are p start [] = tt
rows_are p start (d ∷ demands) = ((refl, row_front p start), rows_are p (start + 1) demands)

prefixes_are : (p : ProblemValue) (x : ScaledValue) (i s n : ℕ) → s + n ≤ length (list_at p i) + 1 → AllByRecursion (IsRowSet p) (map (prefix_set p x i) (range_with_len s n))
prefixes_are p x i s zero h = tt
prefixes_are p x i s (suc n) h = ((refl, prefix_front p x i s (omega arith)), prefixes_are p x i (s + 1) n (omega arith))

pub added_are : (p : ProblemValue) (x : ScaledValue) (agents : List ℕ) → AllByRecursion (IsRowSet p) (flat_map (λ i. map (prefix_set p x i) (range_with_len 1 (length (list_at p i)))) agents)
added_are p x [] = tt
added_are p x (i ∷ agents) =
    each_append (IsRowSet p) (map (prefix_set p x i) (range_with_len 1 (length (list_at p i)))) (flat_map (λ i. map (prefix_set p x i) (range_with_len 1 (length (list_at p i)))) agents)
    (prefixes_are p x i 1 (length (list_at p i)) (omega arith)) (added_are p x agents)
