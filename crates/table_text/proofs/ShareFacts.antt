-- Facts on shares.
use Rattle.std.proofs.Common.{◌≡◌, ◌≢◌, ◌<◌, ◌≤◌, ◌+◌, ◌*◌, ◌^◌, ◌&&◌, ◌++◌, ◌∷◌, [], ℕ, List, Bool, true, false, Option, Some, None, refl, sym, length, arith, ◌∙◌, inl, inr, ltb}
use Rattle.std.specs.Char.{digit_value, is_ascii_digit}
use Rattle.std.specs.Str.{all_ascii_digits}
use Rattle.std.specs.Str.Parse.{digits_value, digits_value_after}
use Rattle.std.proofs.Math.Nat.{pow-suc, add-mul, mul_comm, mul_assoc}
use Rattle.std.proofs.lemmas.Bool.{cases_Bool, lt-ltb, le-leb, ne_eqb}
use Rattle.std.proofs.lemmas.List.{length-append}
use Rattle.std.proofs.lemmas.Str.Parse.{tells_all_ascii_digits, digits_value_short, numerals_by_value}
use Rattle.definitions.specs.Texts.{count_of, is_count, is_digits, is_quotient, part_after, part_before, share_of}
use Rattle.definitions.specs.Values.{Ratio}
use Rattle.table_text.specs.Shares.{decimal_of, quotient_of}
use Rattle.table_text.proofs.CountFacts.{count-digits}

-- ---- counts

-- a value that was read is that of a count
pub count-is : (t : List ℕ) (n : ℕ) → Some n ≡ count_of t → (is_count t ≡ true) × (n ≡ digits_value 10 t)
unfolding count_of
count-is t n e = elim (cases_Bool (is_count t)) [
  | inl is ↦ (is, cc (rw is at e))
  | inr other ↦ cc (rw other at e)
]

-- where none was read there is no count
pub count-isnt : (t : List ℕ) → None ≡ count_of t → is_count t ≡ false
unfolding count_of
count-isnt t e = elim (cases_Bool (is_count t)) [
  | inl is ↦ cc (rw is at e)
  | inr other ↦ other
]

-- ---- a count over a count

-- a quotient of two counts
pub quotient-some : (t : List ℕ) (n d : ℕ) → Some n ≡ count_of (part_before 47 t) → Some d ≡ count_of (part_after 47 t) → d ≢ 0
    → Some (record { num = n; den = d }) ≡ quotient_of t
quotient-some t n d a b p = rw ((count-is _ n a).0, (count-is _ d b).0, ← a, ← b, lt-ltb 0 d (omega arith)) refl

-- no count before the stroke
pub quotient-no-num : (t : List ℕ) → None ≡ count_of (part_before 47 t) → None ≡ quotient_of t
quotient-no-num t a = rw (count-isnt _ a) refl

-- ---- digits with a decimal point

-- digits after digits
after-append : (n : ℕ) (xs ys : List ℕ) → digits_value_after 10 n (xs ++ ys) ≡ digits_value_after 10 (digits_value_after 10 n xs) ys
after-append n [] ys = refl
after-append n (c ∷ cs) ys = after-append (n * 10 + digit_value c) cs ys

-- one digit more on the right of a number
shift-step : (n d p r : ℕ) → (n * 10 + d) * p + r ≡ n * (p * 10) + ((0 * 10 + d) * p + r)
shift-step n d p r =
    let a : (n * 10 + d) * p ≡ n * 10 * p + d * p = add-mul (n * 10) d p in
    let b : n * (p * 10) ≡ n * 10 * p = rw (mul_comm p 10) (sym (mul_assoc n 10 p)) in
    let z : 0 * 10 + d ≡ d = omega arith in
    rw (z, a, b) (omega arith)

-- digits that follow those of n raise n by their places
after-shift : (n : ℕ) (ys : List ℕ) → digits_value_after 10 n ys ≡ n * 10 ^ length ys + digits_value 10 ys
after-shift n [] = omega arith
after-shift n (c ∷ cs) =
    rw (after-shift (n * 10 + digit_value c) cs, after-shift (0 * 10 + digit_value c) cs, pow-suc 10 (length cs)) (shift-step n (digit_value c) (10 ^ length cs) (digits_value 10 cs))

-- the value of digits after digits
pub digits_value-append : (xs ys : List ℕ) → digits_value 10 (xs ++ ys) ≡ digits_value 10 xs * 10 ^ length ys + digits_value 10 ys
digits_value-append xs ys = after-append 0 xs ys ∙ after-shift (digits_value 10 xs) ys

-- digits after digits are digits
digits-append : (xs ys : List ℕ) → all_ascii_digits xs ≡ true → all_ascii_digits ys ≡ true → all_ascii_digits (xs ++ ys) ≡ true
digits-append [] ys a b = b
digits-append (c ∷ cs) ys a b = elim (cases_Bool (is_ascii_digit c)) [
  | inl is ↦ rw is (digits-append cs ys (rw is at a) b)
  | inr other ↦ cc (rw other at a)
]

-- at most 38 digits have a value below 2 ^ 128
digits-small : (t : List ℕ) (high : ℕ) → high ≤ 38 → length t ≤ high → all_ascii_digits t ≡ true → digits_value 10 t < 2 ^ 128
digits-small t high h l d = let small = digits_value_short (numerals_by_value _ tells_all_ascii_digits) t 38 d (omega arith) in omega (arith, small)

-- digits of at most 38 places are a count
pub is_digits-is_count : (t : List ℕ) (high : ℕ) → high ≤ 38 → length t ≤ high → is_digits 1 high t ≡ is_count t
is_digits-is_count t high h l = elim (cases_Bool (ltb 0 (length t))) [
  | inl some ↦
      elim (cases_Bool (all_ascii_digits t)) [
        | inl d ↦ rw (some, le-leb (length t) high l, le-leb (length t) 39 (omega arith), d, lt-ltb _ _ (digits-small t high h l d)) refl
        | inr d ↦ rw (some, le-leb (length t) high l, le-leb (length t) 39 (omega arith), d) refl
      ]
  | inr none ↦ rw none refl
]

-- a test and one that fails
and-false : (b : Bool) → (b && false) ≡ false
and-false true = refl
and-false false = refl

-- no digits before the point
pub decimal-no-whole : (t : List ℕ) → length (part_before 46 t) ≤ 8 → None ≡ count_of (part_before 46 t) → None ≡ decimal_of t
decimal-no-whole t l e = rw (is_digits-is_count (part_before 46 t) 8 (omega arith) l, count-isnt _ e) refl

-- no digits after the point
pub decimal-no-part : (t : List ℕ) → length (part_after 46 t) ≤ 30 → None ≡ count_of (part_after 46 t) → None ≡ decimal_of t
decimal-no-part t l e = rw (is_digits-is_count (part_after 46 t) 30 (omega arith) l, count-isnt _ e, and-false (is_digits 1 8 (part_before 46 t))) refl

-- the two values make that of all digits, which are at most 38
pub decimal-value : (before after : List ℕ) (w p : ℕ) → length before ≤ 8 → length after ≤ 30 → Some w ≡ count_of before → Some p ≡ count_of after
    → (w * 10 ^ length after + p ≡ digits_value 10 (before ++ after)) × (w * 10 ^ length after + p < 10 ^ 38)
decimal-value before after w p l m a b =
    let whole = count-is before w a in
    let part = count-is after p b in
    let value : w * 10 ^ length after + p ≡ digits_value 10 (before ++ after) = rw (whole.1, part.1) (sym (digits_value-append before after)) in
    let digits = digits-append before after (count-digits before whole.0) (count-digits after part.0) in
    let size : length (before ++ after) ≤ 38 = omega (arith, length-append before after) in
    (value, rw value (digits_value_short (numerals_by_value _ tells_all_ascii_digits) (before ++ after) 38 digits size))

-- digits with a point
pub decimal-some : (t : List ℕ) (w p : ℕ) → length (part_before 46 t) ≤ 8 → length (part_after 46 t) ≤ 30 → Some w ≡ count_of (part_before 46 t) → Some p ≡ count_of (part_after 46 t)
    → Some (record { num = w * 10 ^ length (part_after 46 t) + p; den = 10 ^ length (part_after 46 t) }) ≡ decimal_of t
decimal-some t w p l m a b =
    rw (is_digits-is_count (part_before 46 t) 8 (omega arith) l, is_digits-is_count (part_after 46 t) 30 (omega arith) m, (count-is _ w a).0, (count-is _ p b).0, (decimal-value _ _ w p l m a b).0) refl

-- ---- a share

-- nothing is the share 0
pub share-empty : (t : List ℕ) → length t ≡ 0 → Some (record { num = 0; den = 1 }) ≡ share_of t
unfolding share_of
share-empty t e = rw e refl

-- a count is a share
pub share-count : (t : List ℕ) (n : ℕ) → length t ≢ 0 → Some n ≡ count_of t → Some (record { num = n; den = 1 }) ≡ share_of t
unfolding share_of
share-count t n s e = rw (ne_eqb (length t) 0 s, (count-is t n e).0, ← e) refl

-- a quotient is a share
pub share-quotient : (t : List ℕ) (r : Ratio) → length t ≢ 0 → None ≡ count_of t → Some r ≡ quotient_of t → Some r ≡ share_of t
unfolding share_of
share-quotient t r s e q = elim (cases_Bool (is_quotient t)) [
  | inl is ↦ rw (ne_eqb (length t) 0 s, count-isnt t e, is) (rw is at q)
  | inr other ↦ cc (rw other at q)
]

-- what is neither count nor quotient is a share where it is digits with a point
pub share-decimal : (t : List ℕ) (o : Option Ratio) → length t ≢ 0 → None ≡ count_of t → None ≡ quotient_of t → o ≡ decimal_of t → o ≡ share_of t
unfolding share_of
share-decimal t o s e q d = elim (cases_Bool (is_quotient t)) [
  | inl is ↦ cc (rw is at q)
  | inr other ↦ rw (ne_eqb (length t) 0 s, count-isnt t e, other) d
]
