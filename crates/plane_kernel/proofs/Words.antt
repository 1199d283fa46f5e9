-- Lanes, chunks and words.
use Rattle.std.proofs.Common.{◌≡◌, ℕ, ◌+◌, ◌%◌, ◌<◌, ◌≤◌, ◌∙◌, List, [], ◌∷◌, ◌++◌, Bool, true, false, not, ◌||◌, ◌&&◌, eqb, length, drop, bit_and, bit_or, bit_xor, refl, sym, ap, ap₂, inl, inr, arith, zero, suc, ◌*◌, get_or, Fits, w64, drop-cons, add-one, count_ones}
use Rattle.std.proofs.lemmas.Nat.{le_or_l}
use Rattle.std.proofs.lemmas.Nat.Bits.{same_from_bits, bit_at_xor, bit_at-lt, bit_at-zero}
use Rattle.std.proofs.lemmas.Bool.{ne_eqb, cases_eq}
use Rattle.std.proofs.lemmas.Bool.Decides.{nat_tests}
use Rattle.std.proofs.lemmas.Simd.{chunk-drop, length-chunk}
use Rattle.std.specs.Int.{bit_at}
use Rattle.plane_kernel.specs.Bits.{ones_in}
use Rattle.plane_kernel.specs.Words.{words_meet, words_within}
use lib.Lanes.{fold_l, zip2, chunk}
use Rattle.std.proofs.lemmas.Nat.{ones-le}
use Rattle.std.proofs.lemmas.List.Sums.{sum_by-cons, sum_by-append}

-- an or is 0 where both are
or_is_zero : (a b : ℕ) → eqb (bit_or a b) 0 ≡ eqb a 0 && eqb b 0
or_is_zero zero b = refl
or_is_zero (suc a) b =
    let h = le_or_l (suc a) b in
    ne_eqb (bit_or (suc a) b) 0 (λ e. omega arith) ∙ ap (λ t. t && eqb b 0) (sym (ne_eqb (suc a) 0 (λ e. omega arith)))

de_morgan : (p q : Bool) (r : Bool) → not (p && q) || r ≡ not p || (not q || r)
de_morgan true q r = refl
de_morgan false q r = refl

or_false : (p : Bool) → p ≡ p || false
or_false true = refl
or_false false = refl

pub fold_meets : (a : ℕ) (xs ys : List ℕ) → not (eqb (fold_l bit_or a (zip2 bit_and xs ys)) 0) ≡ not (eqb a 0) || words_meet xs ys
fold_meets a [] ys = or_false _
fold_meets a (x ∷ xs) [] = or_false _
fold_meets a (x ∷ xs) (y ∷ ys) =
    fold_meets (bit_or a (bit_and x y)) xs ys
    ∙ ap (λ t. not t || words_meet xs ys) (or_is_zero a (bit_and x y))
    ∙ de_morgan (eqb a 0) (eqb (bit_and x y) 0) (words_meet xs ys)

-- an exclusive or is 0 exactly where the two are equal
one_bit : (a b : ℕ) → a < 2 → b < 2 → (a + b) % 2 ≡ 0 → a ≡ b
one_bit a b p q h = omega arith

xor_equal : (a b : ℕ) → bit_xor a b ≡ 0 → a ≡ b
xor_equal a b h =
    same_from_bits a b (λ i. one_bit (bit_at a i) (bit_at b i) (bit_at-lt a i) (bit_at-lt b i)
    (sym (bit_at_xor a b i) ∙ ap (λ n. bit_at n i) h ∙ bit_at-zero i))

xor_self : (a : ℕ) → bit_xor a a ≡ 0
xor_self a = same_from_bits (bit_xor a a) 0 (λ i. bit_at_xor a a i ∙ twice (bit_at a i) ∙ sym (bit_at-zero i))
  where
    twice : (n : ℕ) → (n + n) % 2 ≡ 0
    twice n = omega arith

xor_test : (a b : ℕ) → eqb (bit_xor a b) 0 ≡ eqb a b
xor_test a b =
    elim (cases_eq a b) [
      | inl e ↦ (let z : bit_xor a b ≡ 0 = ap (λ n. bit_xor a n) (sym e) ∙ xor_self a in grind (arith, nat_tests))
      | inr n ↦ ne_eqb (bit_xor a b) 0 (λ h. n (xor_equal a b h)) ∙ sym (ne_eqb a b n)
    ]

and_true : (p : Bool) → p ≡ p && true
and_true true = refl
and_true false = refl

and_assoc : (p q r : Bool) → (p && q) && r ≡ p && (q && r)
and_assoc true q r = refl
and_assoc false q r = refl

pub fold_within : (a : ℕ) (xs ys : List ℕ) → eqb (fold_l bit_or a (zip2 bit_xor (zip2 bit_and xs ys) xs)) 0 ≡ eqb a 0 && words_within xs ys
fold_within a [] ys = and_true _
fold_within a (x ∷ xs) [] = and_true _
fold_within a (x ∷ xs) (y ∷ ys) =
    fold_within (bit_or a (bit_xor (bit_and x y) x)) xs ys
    ∙ ap (λ t. t && words_within xs ys) (or_is_zero a (bit_xor (bit_and x y) x) ∙ ap (λ t. eqb a 0 && t) (xor_test (bit_and x y) x))
    ∙ and_assoc (eqb a 0) (eqb (bit_and x y) x) (words_within xs ys)

or_assoc : (p q r : Bool) → p || (q || r) ≡ p || q || r
or_assoc true q r = refl
or_assoc false q r = refl

-- a front of both lists decides, and then the rest
pub meet_append : (xs ys us vs : List ℕ) → length xs ≡ length us → words_meet (xs ++ ys) (us ++ vs) ≡ words_meet xs us || words_meet ys vs
meet_append [] ys [] vs e = refl
meet_append [] ys (u ∷ us) vs e = cc
meet_append (x ∷ xs) ys [] vs e = cc
meet_append (x ∷ xs) ys (u ∷ us) vs e =
    ap (λ t. not (eqb (bit_and x u) 0) || t) (meet_append xs ys us vs (omega arith))
    ∙ or_assoc (not (eqb (bit_and x u) 0)) (words_meet xs us) (words_meet ys vs)

-- the loop's step over a chunk
pub meet_step : (i n : ℕ) (xs ys : List ℕ) → i + n ≤ length xs → length xs ≡ length ys
    → words_meet (drop i xs) (drop i ys) ≡ words_meet (chunk i n xs) (chunk i n ys) || words_meet (drop (i + n) xs) (drop (i + n) ys)
meet_step i n xs ys room same =
    ap₂ words_meet (chunk-drop i n xs) (chunk-drop i n ys)
    ∙ meet_append (chunk i n xs) (drop (i + n) xs) (chunk i n ys) (drop (i + n) ys) (length-chunk i n xs room ∙ sym (length-chunk i n ys (omega arith)))

pub within_append : (xs ys us vs : List ℕ) → length xs ≡ length us → words_within (xs ++ ys) (us ++ vs) ≡ words_within xs us && words_within ys vs
within_append [] ys [] vs e = refl
within_append [] ys (u ∷ us) vs e = cc
within_append (x ∷ xs) ys [] vs e = cc
within_append (x ∷ xs) ys (u ∷ us) vs e =
    ap (λ t. eqb (bit_and x u) x && t) (within_append xs ys us vs (omega arith))
    ∙ sym (and_assoc (eqb (bit_and x u) x) (words_within xs us) (words_within ys vs))

pub within_step : (i n : ℕ) (xs ys : List ℕ) → i + n ≤ length xs → length xs ≡ length ys
    → words_within (drop i xs) (drop i ys) ≡ words_within (chunk i n xs) (chunk i n ys) && words_within (drop (i + n) xs) (drop (i + n) ys)
within_step i n xs ys room same =
    ap₂ words_within (chunk-drop i n xs) (chunk-drop i n ys)
    ∙ within_append (chunk i n xs) (drop (i + n) xs) (chunk i n ys) (drop (i + n) ys) (length-chunk i n xs room ∙ sym (length-chunk i n ys (omega arith)))

ones_cons : (x : ℕ) (xs : List ℕ) → ones_in (x ∷ xs) ≡ count_ones x + ones_in xs
ones_cons = sum_by-cons count_ones

-- the loop's step over a chunk
pub ones_step : (i n : ℕ) (xs : List ℕ) → ones_in (drop i xs) ≡ ones_in (chunk i n xs) + ones_in (drop (i + n) xs)
ones_step i n xs = ap ones_in (chunk-drop i n xs) ∙ sum_by-append count_ones (chunk i n xs) (drop (i + n) xs)

-- at most 64 bits are set in each word
pub ones_bound : (xs : List ℕ) → ((k : ℕ) → Fits w64 (get_or xs k 0)) → ones_in xs ≤ 64 * length xs
ones_bound [] fit = omega arith
ones_bound (x ∷ xs) fit =
    let one = ones-le 64 x (fit 0).fits in
    let more = ones_bound xs (λ k. fit (suc k)) in
    omega (arith, one, more, ones_cons x xs)

pub ones_front : (n : ℕ) (xs : List ℕ) → ones_in (drop n xs) ≤ ones_in xs
ones_front zero xs = omega arith
ones_front (suc n) [] = omega arith
ones_front (suc n) (x ∷ xs) =
    let more = ones_front n xs in
    let one = ones_cons x xs in
    omega (arith, more, one)

-- the loop's step over a word
pub ones_next : (i : ℕ) (xs : List ℕ) → i < length xs → ones_in (drop i xs) ≡ count_ones (get_or xs i 0) + ones_in (drop (i + 1) xs)
ones_next i xs h =
    ap ones_in (drop-cons xs i 0 h) ∙ ones_cons (get_or xs i 0) (drop (suc i) xs)
    ∙ ap (λ k. count_ones (get_or xs i 0) + ones_in (drop k xs)) (sym (add-one i))
