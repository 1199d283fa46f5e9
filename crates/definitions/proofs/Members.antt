-- Lists without repeats as finite sets, over a test of equality.
use Rattle.std.proofs.Common.{◌≡◌, ℕ, zero, suc, ◌+◌, ◌<◌, ◌≤◌, ◌∙◌, List, [], ◌∷◌, ◌++◌, Bool, true, false, not, ◌||◌, ◌&&◌, cond, length, take, filter, get_or, refl, sym, ap, subst, inl, inr, arith}
use Rattle.std.specs.Prelude.{nat_eq, nat_lt, ◌==◌, count_by}
use Rattle.std.specs.List.{AllByRecursion, IsDistinct, list_any, list_all}
use Rattle.std.specs.Set.{is_member}
use Rattle.std.specs.Bool.{Decides}
use Rattle.std.specs.Cmp.{IsEquivalence}
use Rattle.std.specs.Str.{bytes_eq}
use Rattle.std.proofs.lemmas.Bool.{both_ways, or_parts, or_from, and_parts, and_from, and_left, and_right, or_left, or_right, or_cases, false_from_ne_true, eqb-true, eq-eqb, lt-ltb}
use Rattle.std.proofs.lemmas.List.Sums.{sum_by-cons, count_by-le-length}
use Rattle.std.proofs.lemmas.List.Folds.{list_any_at, list_any-append}
use Rattle.std.proofs.lemmas.List.Elements.{recursion_from_All}
use Rattle.std.proofs.lemmas.Bool.Decides.{nat_tests}
use Rattle.std.proofs.lemmas.Map.Made.{IsDistinct-from_AllPairs, is_member-filter}
use Rattle.std.proofs.lemmas.Slice.Eq.{bytes_eq-Decides}
use Rattle.definitions.specs.declared.Cell.{Cell}
use Rattle.definitions.specs.Sets.{cell_of, same_cell, holds, overlaps, is_subset, crosses, IsBefore, IsRising}

-- a test that is true of equal things, and of no others
pub record IsEqualityTest {X : Type 0} (same : X → X → Bool) : Type 0 where
  pub sound : (x y : X) → same x y ≡ true → x ≡ y
  pub self : (x : X) → same x x ≡ true
  pub turned : (x y : X) → same x y ≡ same y x

module _ {X : Type 0} (same : X → X → Bool) where
  absent_from : (x : X) (xs : List X) → AllByRecursion (λ y. same x y ≡ false) xs → is_member same xs x ≡ false
  absent_from x [] a = refl
  absent_from x (y ∷ ys) a = or_from (same x y) (is_member same ys x) a.0 (absent_from x ys a.1)

  absent_along_all : (x : X) (xs : List X) → is_member same xs x ≡ false → AllByRecursion (λ y. same x y ≡ false) xs
  absent_along_all x [] e = tt
  absent_along_all x (y ∷ ys) e = let parts = or_parts (same x y) (is_member same ys x) e in (parts.0, absent_along_all x ys parts.1)

  -- of a list without repeats, the first is no member of the rest
  pub distinct_first : (x : X) (xs : List X) → IsDistinct same (x ∷ xs) → is_member same xs x ≡ false
  unfolding IsDistinct
  distinct_first x xs d = absent_from x xs d.0

  -- and the rest has no repeats
  pub distinct_rest : (x : X) (xs : List X) → IsDistinct same (x ∷ xs) → IsDistinct same xs
  unfolding IsDistinct
  distinct_rest x xs d = d.1

  pub distinct_none : IsDistinct same []
  unfolding IsDistinct
  distinct_none = tt

  pub distinct_more : (x : X) (xs : List X) → is_member same xs x ≡ false → IsDistinct same xs → IsDistinct same (x ∷ xs)
  unfolding IsDistinct
  distinct_more x xs e d = (absent_along_all x xs e, d)

  -- what is no member of a list is none of its front
  pub member_take : (k : ℕ) (xs : List X) (x : X) → is_member same xs x ≡ false → is_member same (take k xs) x ≡ false
  member_take zero xs x e = refl
  member_take (suc k) [] x e = refl
  member_take (suc k) (y ∷ ys) x e =
      let parts = or_parts (same x y) (is_member same ys x) e in or_from (same x y) (is_member same (take k ys) x) parts.0 (member_take k ys x parts.1)

  -- the front of a list without repeats has none
  pub distinct_take : (k : ℕ) (xs : List X) → IsDistinct same xs → IsDistinct same (take k xs)
  distinct_take zero xs d = distinct_none
  distinct_take (suc k) [] d = distinct_none
  distinct_take (suc k) (x ∷ xs) d =
      distinct_more x (take k xs) (member_take k xs x (distinct_first x xs d)) (distinct_take k xs (distinct_rest x xs d))

  count_cons : (p : X → Bool) (x : X) (xs : List X) → count_by p (x ∷ xs) ≡ cond (p x) 1 0 + count_by p xs
  count_cons p x xs = sum_by-cons (λ y. cond (p y) 1 0) x xs

  -- how many of the first are in the second
  abbrev pub common : List X → List X → ℕ
  common xs ys = count_by (is_member same ys) xs

bit_either : (p q : Bool) → (p ≡ true → q ≡ true → ⊥) → cond (p || q) 1 0 ≡ cond p 1 0 + cond q 1 0
bit_either true true apart = absurd (apart refl refl)
bit_either true false apart = refl
bit_either false q apart = omega arith

-- counting by one test or another that never hold together
pub count_either : {X : Type 0} (p q : X → Bool) (xs : List X) → ((x : X) → p x ≡ true → q x ≡ true → ⊥)
    → count_by (λ x. p x || q x) xs ≡ count_by p xs + count_by q xs
count_either p q [] apart = refl
count_either p q (x ∷ xs) apart =
    omega (arith, bit_either (p x) (q x) (apart x), count_either p q xs apart, sum_by-cons (λ y. cond (p y || q y) 1 0) x xs, sum_by-cons (λ y. cond (p y) 1 0) x xs, sum_by-cons (λ y. cond (q y) 1 0) x xs)

-- a test that fails throughout
pub count_none : {X : Type 0} (p : X → Bool) (xs : List X) → ((x : X) → p x ≡ false) → count_by p xs ≡ 0
count_none p [] none = refl
count_none p (x ∷ xs) none = let bit = ap {B = ℕ} (λ b. cond b 1 0) (none x) in omega (arith, sum_by-cons (λ y. cond (p y) 1 0) x xs, count_none p xs none, bit)

-- each passes a test where it counts the whole length
pub every_by_count : {X : Type 0} (p : X → Bool) (xs : List X) → list_all p xs ≡ true → count_by p xs ≡ length xs
every_by_count p [] e = refl
every_by_count p (x ∷ xs) e =
    let parts = and_parts (p x) (list_all p xs) e in
    let bit = ap {B = ℕ} (λ b. cond b 1 0) parts.0 in
    omega (arith, sum_by-cons (λ y. cond (p y) 1 0) x xs, every_by_count p xs parts.1, bit)

must : (b : Bool) (n m : ℕ) → suc m ≤ cond b 1 0 + n → n ≤ m → b ≡ true
must true n m e k = refl
must false n m e k = absurd (omega arith)

pub every_from_count : {X : Type 0} (p : X → Bool) (xs : List X) → length xs ≤ count_by p xs → list_all p xs ≡ true
every_from_count p [] e = refl
every_from_count p (x ∷ xs) e =
    let step = sum_by-cons (λ y. cond (p y) 1 0) x xs in
    let bound = count_by-le-length p xs in
    let h : p x ≡ true = must (p x) (count_by p xs) (length xs) (omega (arith, e, step)) bound in
    let bit = ap {B = ℕ} (λ b. cond b 1 0) h in
    and_from (p x) (list_all p xs) h (every_from_count p xs (omega (arith, e, step, bit)))

some_step : (b c : Bool) (n : ℕ) → c ≡ nat_lt 0 n → (b || c) ≡ nat_lt 0 (cond b 1 0 + n)
some_step true c n e = sym (lt-ltb 0 (1 + n) (omega arith))
some_step false c n e = let none : n ≡ 0 + n = omega arith in e ∙ ap (nat_lt 0) none

-- some passes a test exactly where it counts some
pub some_by_count : {X : Type 0} (p : X → Bool) (xs : List X) → list_any p xs ≡ nat_lt 0 (count_by p xs)
some_by_count p [] = refl
some_by_count p (x ∷ xs) = some_step (p x) (list_any p xs) (count_by p xs) (some_by_count p xs) ∙ ap (nat_lt 0) (sym (sum_by-cons (λ y. cond (p y) 1 0) x xs))

all_step : (b c : Bool) (n m : ℕ) → c ≡ not (nat_lt n m) → n ≤ m → (b && c) ≡ not (nat_lt (cond b 1 0 + n) (suc m))
all_step true c n m e l = let same : nat_lt n m ≡ nat_lt (1 + n) (suc m) = grind (arith, nat_tests) in e ∙ ap not same
all_step false c n m e l = ap not (sym (lt-ltb (0 + n) (suc m) (omega arith)))

-- all pass a test exactly where it counts the whole length
pub all_by_count : {X : Type 0} (p : X → Bool) (xs : List X) → list_all p xs ≡ not (nat_lt (count_by p xs) (length xs))
all_by_count p [] = refl
all_by_count p (x ∷ xs) =
    all_step (p x) (list_all p xs) (count_by p xs) (length xs) (all_by_count p xs) (count_by-le-length p xs)
    ∙ ap (λ n. not (nat_lt n (suc (length xs)))) (sym (sum_by-cons (λ y. cond (p y) 1 0) x xs))

module _ {X : Type 0} (same : X → X → Bool) (s : IsEqualityTest same) where
  count_absent : (x : X) (ys : List X) → is_member same ys x ≡ false → count_by (same x) ys ≡ 0
  count_absent x [] h = refl
  count_absent x (y ∷ ys) h =
      let parts = or_parts (same x y) (is_member same ys x) h in
      let bit = ap {B = ℕ} (λ b. cond b 1 0) parts.0 in
      omega (arith, sum_by-cons (λ z. cond (same x z) 1 0) y ys, count_absent x ys parts.1, bit)

  one_more : (p h : Bool) (n : ℕ) → (p ≡ true → h ≡ false) → n ≡ cond h 1 0 → cond p 1 0 + n ≡ cond (p || h) 1 0
  one_more true h n f k = let z = k ∙ ap (λ b. cond b 1 0) (f refl) in omega (arith, z)
  one_more false h n f k = omega (arith, k)

  -- what is equal to an absent thing is absent
  pub absent_along : (x y : X) (ys : List X) → same x y ≡ true → is_member same ys y ≡ false → is_member same ys x ≡ false
  absent_along x y ys e h = subst (λ z. is_member same ys z ≡ false) (sym (s.sound x y e)) h

  -- a member of a list without repeats is there once
  pub count_same : (x : X) (ys : List X) → IsDistinct same ys → count_by (same x) ys ≡ cond (is_member same ys x) 1 0
  count_same x [] d = refl
  count_same x (y ∷ ys) d =
      sum_by-cons (λ z. cond (same x z) 1 0) y ys
      ∙ one_more (same x y) (is_member same ys x) (count_by (same x) ys) (λ e. absent_along x y ys e (distinct_first same y ys d)) (count_same x ys (distinct_rest same y ys d))

  apart_tests : (x : X) (xs : List X) → is_member same xs x ≡ false → (y : X) → same y x ≡ true → is_member same xs y ≡ true → ⊥
  apart_tests x xs h y e k = both_ways _ h (subst (λ z. is_member same xs z ≡ true) (s.sound y x e) k)

  -- two lists without repeats have as many in common either way
  pub common_turned : (xs ys : List X) → IsDistinct same xs → IsDistinct same ys → common same xs ys ≡ common same ys xs
  common_turned [] ys dx dy = sym (count_none (is_member same []) ys (λ x. refl))
  common_turned (x ∷ xs) ys dx dy =
      let flip : count_by (λ y. same y x) ys ≡ count_by (same x) ys = count_flip x ys in
      let both = count_either (λ y. same y x) (is_member same xs) ys (apart_tests x xs (distinct_first same x xs dx)) in
      omega (arith, count_same x ys dy, common_turned xs ys (distinct_rest same x xs dx) dy, flip, both, sum_by-cons (λ z. cond (is_member same ys z) 1 0) x xs)
    where
      count_flip : (x : X) (ys : List X) → count_by (λ y. same y x) ys ≡ count_by (same x) ys
      count_flip x [] = refl
      count_flip x (y ∷ ys) = let bit = ap {B = ℕ} (λ b. cond b 1 0) (s.turned y x) in omega (arith, bit, count_flip x ys, sum_by-cons (λ z. cond (same z x) 1 0) y ys, sum_by-cons (λ z. cond (same x z) 1 0) y ys)

  -- a set within a set that is no larger holds all of it
  pub no_larger_holds : (xs ys : List X) → IsDistinct same xs → IsDistinct same ys → list_all (is_member same ys) xs ≡ true → length ys ≤ length xs → list_all (is_member same xs) ys ≡ true
  no_larger_holds xs ys dx dy sub le =
      let all = every_by_count (is_member same ys) xs sub in
      let turned = common_turned xs ys dx dy in
      every_from_count (is_member same xs) ys (omega (arith, all, turned, le))

  -- what passes for each element passes for each member
  pub all_members : (p : X → Bool) (xs : List X) → list_all p xs ≡ true → (x : X) → is_member same xs x ≡ true → p x ≡ true
  all_members p [] e x m = cc m
  all_members p (y ∷ ys) e x m =
      let parts = and_parts (p y) (list_all p ys) e in
      elim (or_cases (same x y) (is_member same ys x) m) [
        | inl here ↦ subst (λ z. p z ≡ true) (sym (s.sound x y here)) parts.0
        | inr later ↦ all_members p ys parts.1 x later
      ]

  -- and the other way round
  pub all_from_members : (p : X → Bool) (xs : List X) → ((x : X) → is_member same xs x ≡ true → p x ≡ true) → list_all p xs ≡ true
  all_from_members p [] h = refl
  all_from_members p (x ∷ xs) h =
      and_from (p x) (list_all p xs) (h x (or_left (same x x) (is_member same xs x) (s.self x)))
      (all_from_members p xs (λ y m. h y (or_right (same y x) (is_member same xs y) m)))

  equivalence : IsEquivalence same
  equivalence = record { refl = s.self; symm = s.turned; congr = λ x y z e. ap (λ v. same v z) (s.sound x y e) }

  -- the members of a filter are the members that pass
  pub member_of_filter : (p : X → Bool) (xs : List X) (x : X) → is_member same (filter p xs) x ≡ (is_member same xs x && p x)
  member_of_filter p xs x = is_member-filter equivalence p x (λ y e. ap p (s.sound x y e)) xs

  distinct_step : (p : X → Bool) (x : X) (xs : List X) (b : Bool) → is_member same (filter p xs) x ≡ false → IsDistinct same (filter p xs) → IsDistinct same (cond b (x ∷ filter p xs) (filter p xs))
  distinct_step p x xs true off d = distinct_more same x (filter p xs) off d
  distinct_step p x xs false off d = d

  -- a filter has no repeats where the list has none
  pub distinct_filter : (p : X → Bool) (xs : List X) → IsDistinct same xs → IsDistinct same (filter p xs)
  distinct_filter p [] d = distinct_none same
  distinct_filter p (x ∷ xs) d =
      distinct_step p x xs (p x) (member_of_filter p xs x ∙ and_left (is_member same xs x) (p x) (distinct_first same x xs d)) (distinct_filter p xs (distinct_rest same x xs d))

  -- an element is a member
  pub member_at : (xs : List X) (i : ℕ) (d : X) → i < length xs → is_member same xs (get_or xs i d) ≡ true
  member_at xs i d l = list_any_at (same (get_or xs i d)) xs i d l (s.self (get_or xs i d))

  -- each element is a member
  pub all_are_members : (xs : List X) → AllByRecursion (λ x. is_member same xs x ≡ true) xs
  all_are_members xs = recursion_from_All (λ x. is_member same xs x ≡ true) xs (λ k d l. member_at xs k d l)

  -- a member is an element
  pub member_place : (x : X) (xs : List X) → is_member same xs x ≡ true → (i : ℕ) × (i < length xs) × ((d : X) → get_or xs i d ≡ x)
  member_place x [] m = cc m
  member_place x (y ∷ ys) m = elim (or_cases (same x y) (is_member same ys x) m) [
    | inl here ↦ (0, omega arith, λ d. sym (s.sound x y here))
    | inr later ↦ let (i, l, e) = member_place x ys later in (suc i, omega (arith, l), e)
  ]

  -- a common member is found either way
  pub shared_by_count : (xs ys : List X) → list_any (is_member same ys) xs ≡ nat_lt 0 (common same xs ys)
  shared_by_count xs ys = some_by_count (is_member same ys) xs

  -- the members of two lists end to end
  pub member_append : (xs ys : List X) (x : X) → is_member same (xs ++ ys) x ≡ (is_member same xs x || is_member same ys x)
  member_append xs ys x = list_any-append (same x) xs ys

  -- two lists without repeats and without a common member have none end to end
  pub distinct_append : (xs ys : List X) → IsDistinct same xs → IsDistinct same ys → ((x : X) → is_member same xs x ≡ true → is_member same ys x ≡ true → ⊥) → IsDistinct same (xs ++ ys)
  distinct_append [] ys dx dy apart = dy
  distinct_append (x ∷ xs) ys dx dy apart =
      let off : is_member same ys x ≡ false = false_from_ne_true (is_member same ys x) (apart x (or_left (same x x) (is_member same xs x) (s.self x))) in
      distinct_more same x (xs ++ ys)
      (member_append xs ys x ∙ or_from (is_member same xs x) (is_member same ys x) (distinct_first same x xs dx) off)
      (distinct_append xs ys (distinct_rest same x xs dx) dy (λ y m. apart y (or_right (same y x) (is_member same xs y) m)))

-- a test that decides equality is an equality test
pub test_from_decides : {X : Type 0} (same : X → X → Bool) → ((x y : X) → Decides (same x y) (x ≡ y)) → IsEqualityTest same
test_from_decides {X} same d = record {
  sound = λ x y. (d x y).0;
  self = λ x. (d x x).1 refl;
  turned = λ x y. turn x y (same x y) (same y x) refl refl;
}
  where
    turn : (x y : X) (b c : Bool) → same x y ≡ b → same y x ≡ c → same x y ≡ same y x
    turn x y true c e f = e ∙ sym ((d y x).1 (sym ((d x y).0 e)))
    turn x y false true e f = ((d x y).1 (sym ((d y x).0 f))) ∙ sym f
    turn x y false false e f = e ∙ sym f

-- numbers, names and cells are compared by equality tests
pub number_test : IsEqualityTest nat_eq
number_test = test_from_decides nat_eq (λ x y. (eqb-true x y, eq-eqb x y))

pub name_test : IsEqualityTest bytes_eq
name_test = test_from_decides bytes_eq bytes_eq-Decides

pub cell_decides : (a b : Cell) → Decides (same_cell a b) (a ≡ b)
cell_decides a b = (
  λ e. (let parts = and_parts (a.agent == b.agent) (a.object == b.object) e in cell_same a b (eqb-true a.agent b.agent parts.0) (eqb-true a.object b.object parts.1)),
  λ e. and_from (a.agent == b.agent) (a.object == b.object) (eq-eqb a.agent b.agent (ap (λ (c : Cell). c.agent) e)) (eq-eqb a.object b.object (ap (λ (c : Cell). c.object) e)),
)
  where
    cell_same : (a b : Cell) → a.agent ≡ b.agent → a.object ≡ b.object → a ≡ b
    cell_same a b e f = ap (λ (i : ℕ). cell_of i a.object) e ∙ ap (cell_of b.agent) f

pub cell_test : IsEqualityTest same_cell
cell_test = test_from_decides same_cell cell_decides

-- rising cells have no repeats
pub rising_distinct : (cells : List Cell) → IsRising cells → IsDistinct same_cell cells
rising_distinct cells r = IsDistinct-from_AllPairs {eq = same_cell} cell_decides cells (λ i j d l m e. apart (get_or cells i d) (get_or cells j d) (r i j d l m) e)
  where
    apart : (a b : Cell) → IsBefore a b → a ≡ b → ⊥
    apart a b (inl l) e = let same = ap (λ (c : Cell). c.agent) e in absurd (omega (arith, l, same))
    apart a b (inr l) e = let same = ap (λ (c : Cell). c.object) e in absurd (omega (arith, l.1, same))

-- the rest of rising cells rises
pub rising_rest : (c : Cell) (cells : List Cell) → IsRising (c ∷ cells) → IsRising cells
rising_rest c cells r i j d l m = r (suc i) (suc j) d (omega (arith, l)) (omega (arith, m))

not-not : (b : Bool) → not (not b) ≡ b
not-not true = refl
not-not false = refl

and_turned : (a b : Bool) → (a && b) ≡ (b && a)
and_turned true true = refl
and_turned true false = refl
and_turned false true = refl
and_turned false false = refl

-- two sets cross exactly where they have some cells in common, and fewer than each has
pub crosses_by_count : (a b : List Cell) → IsDistinct same_cell a → IsDistinct same_cell b
    → crosses a b ≡ (nat_lt 0 (common same_cell a b) && (nat_lt (common same_cell a b) (length a) && nat_lt (common same_cell a b) (length b)))
crosses_by_count a b da db =
    let n = common same_cell a b in
    let some : overlaps a b ≡ nat_lt 0 n = some_by_count (holds b) a in
    let left : not (is_subset a b) ≡ nat_lt n (length a) = ap not (all_by_count (holds b) a) ∙ not-not (nat_lt n (length a)) in
    let right : not (is_subset b a) ≡ nat_lt n (length b) = ap not (all_by_count (holds a) b) ∙ not-not (nat_lt (common same_cell b a) (length b)) ∙ ap (λ m. nat_lt m (length b)) (common_turned same_cell cell_test b a db da) in
    ap (λ t. t && (not (is_subset a b) && not (is_subset b a))) some ∙ ap (λ t. nat_lt 0 n && (t && not (is_subset b a))) left ∙ ap (λ t. nat_lt 0 n && (nat_lt n (length a) && t)) right

-- two sets cross either way round
pub crosses_turned : (a b : List Cell) → IsDistinct same_cell a → IsDistinct same_cell b → crosses a b ≡ crosses b a
crosses_turned a b da db =
    let n = common same_cell a b in
    crosses_by_count a b da db
    ∙ ap (λ t. nat_lt 0 n && t) (and_turned (nat_lt n (length a)) (nat_lt n (length b)))
    ∙ ap (λ m. nat_lt 0 m && (nat_lt m (length b) && nat_lt m (length a))) (common_turned same_cell cell_test a b da db)
    ∙ sym (crosses_by_count b a db da)

-- a set doesn't cross one that it lies within, nor one that lies within it
pub within_apart : (a b : List Cell) → is_subset a b ≡ true → crosses a b ≡ false
within_apart a b within = rw within (and_right (overlaps a b) false refl)

pub around_apart : (a b : List Cell) → is_subset b a ≡ true → crosses a b ≡ false
around_apart a b within =
    rw within (and_right (overlaps a b) (not (is_subset a b) && false) (and_right (not (is_subset a b)) false refl))

-- no set crosses itself
pub crosses_self : (a : List Cell) → crosses a a ≡ false
crosses_self a = within_apart a a (all_from_members same_cell cell_test (holds a) a (λ x m. m))
