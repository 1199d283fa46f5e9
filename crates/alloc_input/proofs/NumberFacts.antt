-- Numbers in rising order, each once, and one more number.
use Rattle.std.proofs.Common.{◌≡◌, ◌≢◌, ◌∙◌, ◌+◌, ◌<◌, ◌≤◌, ◌∷◌, ◌||◌, ◌&&◌, [], ℕ, suc, zero, List, Bool, true, false, length, Option, Some, None, refl, sym, ap, filter, get_or, take, inl, inr, arith}
use Rattle.std.proofs.Math.Bool.{or-false}
use Rattle.std.specs.Prelude.{◌==◌, nat_lt, Result, Ok, Err, IfOk, IfSome, IsSomeAnd}
use Rattle.std.specs.List.{AllByRecursion, range_with_len}
use Rattle.std.specs.List.Sorted.{IsStrictlySortedBy}
use Rattle.std.specs.Ordering.{nat_cmp}
use Rattle.std.specs.declared.cmp.Ordering.TheVariants.{Less}
use Rattle.std.specs.BTreeSet.{insert_key}
use Rattle.std.proofs.lemmas.Bool.{cases_Bool, cases_eq, or_cases, or_left, or_right, or_from, eqb-true, eq-eqb, ne_eqb, lt-ltb, ltb-true}
use Rattle.std.proofs.lemmas.List.{take_more}
use Rattle.std.proofs.lemmas.List.Folds.{list_any-append}
use Rattle.std.proofs.lemmas.List.FromFn.{length-range_with_len}
use Rattle.alloc_input.specs.Cells.{has_number, numbers_to, distinct_below}
use Rattle.alloc_input.specs.Numbers.{AreAmong, AreNumbersBelow, AreSetIn, AddsNumbers, IsRising}
use Rattle.plane_kernel.specs.Bits.{bit_of}

or_comm : (a b : Bool) → (a || b) ≡ (b || a)
or_comm true true = refl
or_comm true false = refl
or_comm false true = refl
or_comm false false = refl

or_twice : (a b : Bool) → (a || b) ≡ ((a || b) || a)
or_twice true b = refl
or_twice false true = refl
or_twice false false = refl

or_assoc : (a b c : Bool) → (a || (b || c)) ≡ ((a || b) || c)
or_assoc true b c = refl
or_assoc false b c = refl

-- a number put at its place in the order
pub has-insert : (xs : List ℕ) (k j : ℕ) → has_number (insert_key nat_cmp xs k) j ≡ (has_number xs j || (k == j))
has-insert [] k j = or-false (k == j)
has-insert (x ∷ xs) k j = elim (cases_Bool (nat_lt k x)) [
  | inl below ↦ rw below (or_comm (k == j) ((x == j) || has_number xs j))
  | inr from ↦ elim (cases_Bool (k == x)) [
    | inl e ↦ (let same : k ≡ x = eqb-true k x e in rw (from, e, same) (or_twice (x == j) (has_number xs j)))
    | inr other ↦ rw (from, other, has-insert xs k j) (or_assoc (x == j) (has_number xs j) (k == j))
  ]
]

-- a number that is added twice
pub or_known : (a b : Bool) → a ≡ true → a ≡ (a || b)
or_known true b e = refl
or_known false b e = cc e

less_is : (x y : ℕ) → nat_cmp x y ≡ Less → x < y
less_is x y e = elim (cases_Bool (nat_lt x y)) [
  | inl l ↦ ltb-true x y l
  | inr g ↦ elim (cases_Bool (x == y)) [
    | inl s ↦ cc (rw (g, s) at e)
    | inr d ↦ cc (rw (g, d) at e)
  ]
]

above_all : (x j : ℕ) (xs : List ℕ) → AllByRecursion (λ y. nat_cmp x y ≡ Less) xs → has_number xs j ≡ true → x < j
above_all x j [] a h = cc h
above_all x j (y ∷ ys) a h = elim (or_cases (y == j) (has_number ys j) h) [
  | inl here ↦ (let same = eqb-true y j here in let l = less_is x y a.0 in omega (arith, same, l))
  | inr later ↦ above_all x j ys a.1 later
]

absent_below : (x : ℕ) (xs : List ℕ) → ((j : ℕ) → has_number xs j ≡ true → x < j) → has_number xs x ≡ false
absent_below x xs h = elim (cases_Bool (has_number xs x)) [
  | inl there ↦ absurd (let l = h x there in omega (arith, l))
  | inr not_there ↦ not_there
]

-- tests that agree on a range pick the same numbers
pub filter-range : (p q : ℕ → Bool) (a n : ℕ) → ((j : ℕ) → a ≤ j → j < a + n → p j ≡ q j) → filter p (range_with_len a n) ≡ filter q (range_with_len a n)
filter-range p q a zero h = refl
filter-range p q a (suc n) h =
    let here = h a (omega arith) (omega arith) in
    let rest = filter-range p q (a + 1) n (λ j l g. h j (omega arith) (omega arith)) in
    rw (here, rest) refl

ahead : (x j : ℕ) (xs : List ℕ) → x < j → has_number xs j ≡ has_number (x ∷ xs) j
ahead x j xs l = let d : x == j ≡ false = ne_eqb x j (λ e. absurd (omega arith)) in rw d refl

-- rising numbers of a range are picked from it
picked : (a n : ℕ) (xs : List ℕ) → IsStrictlySortedBy nat_cmp xs → ((j : ℕ) → has_number xs j ≡ true → (a ≤ j) × (j < a + n)) → xs ≡ filter (has_number xs) (range_with_len a n)
unfolding IsStrictlySortedBy
picked a zero [] r h = refl
picked a zero (x ∷ xs) r h = absurd (let l = h x (or_left (x == x) (has_number xs x) (eq-eqb x x refl)) in omega (arith, l.0, l.1))
picked a (suc n) [] r h = picked (a + 1) n [] r (λ j e. cc e)
picked a (suc n) (x ∷ xs) r h = elim (cases_eq x a) [
  | inl same ↦
      let first : has_number (x ∷ xs) a ≡ true = or_left (x == a) (has_number xs a) (eq-eqb x a same) in
      let rest = picked (a + 1) n xs r.1 (λ j e. (let up = above_all x j xs r.0 e in let l = h j (or_right (x == j) (has_number xs j) e) in (omega (arith, up), omega (arith, l.1)))) in
      let agree = filter-range (has_number xs) (has_number (x ∷ xs)) (a + 1) n (λ j l g. ahead x j xs (omega arith)) in
      rw first (rw same (ap (λ ys. a ∷ ys) (rest ∙ agree)))
  | inr other ↦
      let low = h x (or_left (x == x) (has_number xs x) (eq-eqb x x refl)) in
      let lt : a < x = omega (arith, low.0, other) in
      let gone : has_number (x ∷ xs) a ≡ false = or_from (x == a) (has_number xs a) (ne_eqb x a other) (absent_below a xs (λ j e. (let up = above_all x j xs r.0 e in omega (arith, up)))) in
      rw gone (picked (a + 1) n (x ∷ xs) r (λ j e. (let l = h j e in elim (or_cases (x == j) (has_number xs j) e) [
        | inl here ↦ (let same = eqb-true x j here in (omega (arith, same), omega (arith, l.1)))
        | inr later ↦ (let up = above_all x j xs r.0 later in (omega (arith, up), omega (arith, l.1)))
      ])))
]

-- rising numbers below n
pub below_from_rising : (n : ℕ) (xs : List ℕ) → IsRising xs → ((j : ℕ) → has_number xs j ≡ true → j < n) → AreNumbersBelow n xs
below_from_rising n xs r h = picked 0 n xs r (λ j e. (omega arith, (let l = h j e in omega (arith, l))))

pub has-range : (a n j : ℕ) → a ≤ j → j < a + n → has_number (range_with_len a n) j ≡ true
has-range a zero j l g = absurd (omega arith)
has-range a (suc n) j l g = elim (cases_eq a j) [
  | inl here ↦ or_left (a == j) (has_number (range_with_len (a + 1) n) j) (eq-eqb a j here)
  | inr later ↦ or_right (a == j) (has_number (range_with_len (a + 1) n) j) (has-range (a + 1) n j (omega (arith, later)) (omega arith))
]

pub in-range : (a n j : ℕ) → has_number (range_with_len a n) j ≡ true → j < a + n
in-range a zero j e = cc e
in-range a (suc n) j e = elim (or_cases (a == j) (has_number (range_with_len (a + 1) n) j) e) [
  | inl here ↦ (let same = eqb-true a j here in omega (arith, same))
  | inr later ↦ (let l = in-range (a + 1) n j later in omega (arith, l))
]

has-filter : (p : ℕ → Bool) (xs : List ℕ) (j : ℕ) → has_number (filter p xs) j ≡ true → has_number xs j ≡ true
has-filter p [] j e = e
has-filter p (x ∷ xs) j e = elim (cases_Bool (p x)) [
  | inl passes ↦ elim (or_cases (x == j) (has_number (filter p xs) j) (rw passes at e)) [
    | inl here ↦ or_left (x == j) (has_number xs j) here
    | inr later ↦ or_right (x == j) (has_number xs j) (has-filter p xs j later)
  ]
  | inr fails ↦ or_right (x == j) (has_number xs j) (has-filter p xs j (rw fails at e))
]

-- numbers below n are below n
pub below_is_below : (n : ℕ) (xs : List ℕ) (j : ℕ) → AreNumbersBelow n xs → has_number xs j ≡ true → j < n
below_is_below n xs j b e =
    let there : has_number (distinct_below n xs) j ≡ true = rw (← b) e in
    let l = in-range 0 n j (has-filter (has_number xs) (numbers_to n) j there) in
    omega (arith, l)

pub none_below : (n : ℕ) → AreNumbersBelow n []
none_below n = by 0 n
  where
    by : (a n : ℕ) → [] ≡ filter (has_number []) (range_with_len a n)
    by a zero = refl
    by a (suc n) = by (a + 1) n

pub length-filter-le : {X : Type 0} (p : X → Bool) (xs : List X) → length (filter p xs) ≤ length xs
length-filter-le p [] = omega arith
length-filter-le p (x ∷ xs) = elim (cases_Bool (p x)) [
  | inl passes ↦ rw passes (let l = length-filter-le p xs in omega (arith, l))
  | inr fails ↦ rw fails (let l = length-filter-le p xs in omega (arith, l))
]

-- a test that picks as many as there are picks all
pub filter-full : {X : Type 0} (p : X → Bool) (xs : List X) → length (filter p xs) ≡ length xs → filter p xs ≡ xs
filter-full p [] e = refl
filter-full p (x ∷ xs) e = elim (cases_Bool (p x)) [
  | inl passes ↦ (let h = rw passes at e in rw passes (ap (λ ys. x ∷ ys) (filter-full p xs (omega (arith, h)))))
  | inr fails ↦ absurd (let h = rw fails at e in let l = length-filter-le p xs in omega (arith, h, l))
]

-- a full set of numbers has each number
pub full_has : (n : ℕ) (xs : List ℕ) (j : ℕ) → AreNumbersBelow n xs → length xs ≡ n → j < n → has_number xs j ≡ true
full_has n xs j b e l =
    let all = filter-full (has_number xs) (numbers_to n) (sym (ap length b) ∙ e ∙ sym (length-range_with_len 0 n)) in
    rw (b ∙ all) (has-range 0 n j (omega arith) (omega arith))

full_adds : (a b c : Bool) → (c ≡ true → a ≡ true) → a ≡ (a || (c && b))
full_adds true b c h = refl
full_adds false b true h = cc (h refl)
full_adds false b false h = refl

-- adding to a full set changes nothing
pub full-adds : (n : ℕ) (numbers xs : List ℕ) → AreNumbersBelow n xs → length xs ≡ n → AddsNumbers n numbers xs xs
full-adds n numbers xs b e j = full_adds (has_number xs j) (has_number numbers j) (nat_lt j n) (λ h. full_has n xs j b e (ltb-true j n h))

added_below : (n j : ℕ) (numbers old new : List ℕ) → AreNumbersBelow n old → AddsNumbers n numbers old new → has_number new j ≡ true → j < n
added_below n j numbers old new b a e = elim (or_cases (has_number old j) (nat_lt j n && has_number numbers j) (sym (a j) ∙ e)) [
  | inl was ↦ below_is_below n old j b was
  | inr is ↦ elim (cases_Bool (nat_lt j n)) [
    | inl l ↦ ltb-true j n l
    | inr g ↦ cc (rw g at is)
  ]
]

-- rising numbers with some more below n
pub added-below : (n : ℕ) (numbers old new : List ℕ) → AreNumbersBelow n old → AddsNumbers n numbers old new → IsRising new → AreNumbersBelow n new
added-below n numbers old new b a r = below_from_rising n new r (λ j e. added_below n j numbers old new b a e)

-- numbers added to none
pub distinct-added : (n : ℕ) (numbers new : List ℕ) → AddsNumbers n numbers [] new → IsRising new → new ≡ distinct_below n numbers
distinct-added n numbers new a r =
    added-below n numbers [] new (none_below n) a r
    ∙ filter-range (has_number new) (has_number numbers) 0 n (λ j l g. (let lt = lt-ltb j n (omega arith) in a j ∙ rw lt refl))

-- one more number of some
pub adds_more : (n k j : ℕ) (xs : List ℕ) (a b : Bool) → b ≡ (a || (nat_lt j n && has_number (k ∷ []) j)) → b ≡ (a || (nat_lt j n && (k == j)))
adds_more n k j xs a b e = e ∙ ap (λ c. a || (nat_lt j n && c)) (or-false (k == j))

pub if_ok : {X E : Type 0} (r : Result X E) (P Q : X → Type 0) → ((x : X) → P x → Q x) → IfOk r P → IfOk r Q
if_ok (Ok x) P Q f h = f x h
if_ok (Err e) P Q f h = tt

added_known : (a b c : Bool) → (c ≡ true → b ≡ true → a ≡ true) → a ≡ (a || (c && b))
added_known true b c h = refl
added_known false true true h = cc (h refl refl)
added_known false false true h = refl
added_known false b false h = refl

-- numbers that are all known are there
pub known-adds : (n : ℕ) (numbers xs : List ℕ) (plane : Option (List ℕ)) → IfSome plane (AreSetIn n numbers) → IsSomeAnd plane (AreAmong xs) → AddsNumbers n numbers xs xs
known-adds n numbers xs None set among j = absurd among
known-adds n numbers xs (Some plane) set among j =
    added_known (has_number xs j) (has_number numbers j) (nat_lt j n) (λ l h. among j (set j (ltb-true j n l) h))

-- one more number that a plane has
pub set-more : (n i : ℕ) (numbers plane plane2 : List ℕ) → i < length numbers → AreSetIn n (take i numbers) plane → ((j : ℕ) → bit_of plane j ≡ 1 → bit_of plane2 j ≡ 1)
    → (get_or numbers i 0 < n → bit_of plane2 (get_or numbers i 0) ≡ 1) → AreSetIn n (take (i + 1) numbers) plane2
set-more n i numbers plane plane2 lt s kept set j l h =
    let more = ap (λ xs. has_number xs j) (take_more numbers i 0 lt) ∙ list_any-append (λ x. x == j) (take i numbers) (get_or numbers i 0 ∷ []) in
    elim (or_cases (has_number (take i numbers) j) (has_number (get_or numbers i 0 ∷ []) j) (sym more ∙ h)) [
      | inl was ↦ kept j (s j l was)
      | inr is ↦ (let same = eqb-true (get_or numbers i 0) j (sym (or-false (get_or numbers i 0 == j)) ∙ is) in rw (← same) (set (omega (arith, same))))
    ]

-- a plane with the bit of a number that is put in
pub among-insert : (xs : List ℕ) (k : ℕ) (plane plane2 : List ℕ) → AreAmong xs plane → ((j : ℕ) → bit_of plane2 j ≡ 1 → j ≢ k → bit_of plane j ≡ 1) → AreAmong (insert_key nat_cmp xs k) plane2
among-insert xs k plane plane2 among only j e = has-insert xs k j ∙ elim (cases_eq k j) [
  | inl same ↦ or_right (has_number xs j) (k == j) (eq-eqb k j same)
  | inr other ↦ or_left (has_number xs j) (k == j) (among j (only j e (λ q. other (sym q))))
]
