-- Facts on counts.
use Rattle.std.proofs.Common.{◌≡◌, ◌<◌, ◌≤◌, ◌+◌, ◌*◌, ◌-◌, ◌^◌, ◌∷◌, [], ℕ, suc, zero, List, Bool, true, false, Some, None, refl, take, length, get_or, arith}
use Rattle.std.proofs.lemmas.Bool.{lt-ltb, le-leb, le-ltb, lt-leb, cases_Bool}
use Rattle.std.proofs.Common.{ltb, leb, ◌&&◌}
use Rattle.std.proofs.Common.{inl, inr}
use Rattle.std.specs.Char.{is_ascii_digit, digit_value}
use Rattle.std.specs.Str.{all_ascii_digits}
use Rattle.std.specs.Str.Parse.{digits_value}
use Rattle.std.proofs.lemmas.Bool.Decides.{nat_tests}
use Rattle.std.proofs.lemmas.Str.Parse.{digits_value-take-le}
use Rattle.std.proofs.lemmas.Int.Digits.{digits_value_more}
use Rattle.definitions.specs.Texts.{count_of, is_count}

-- digits so far, and one more
pub digits-more : (text : List ℕ) (i : ℕ) → i < length text → all_ascii_digits (take i text) ≡ true → is_ascii_digit (get_or text i 0) ≡ true → all_ascii_digits (take (suc i) text) ≡ true
digits-more [] i l a d = absurd (omega arith)
digits-more (c ∷ cs) zero l a d = rw d refl
digits-more (c ∷ cs) (suc i) l a d = elim (cases_Bool (is_ascii_digit c)) [
  | inl is ↦ rw is (digits-more cs i (omega arith) (rw is at a) d)
  | inr other ↦ cc (rw other at a)
]

-- a byte that is no digit
pub not-digits : (text : List ℕ) (i : ℕ) → i < length text → is_ascii_digit (get_or text i 0) ≡ false → all_ascii_digits text ≡ false
not-digits [] i l d = absurd (omega arith)
not-digits (c ∷ cs) zero l d = rw d refl
not-digits (c ∷ cs) (suc i) l d = elim (cases_Bool (is_ascii_digit c)) [
  | inl is ↦ rw is (not-digits cs i (omega arith) d)
  | inr other ↦ rw other refl
]

-- the value of a count
pub count-some : (t : List ℕ) → 0 < length t → length t ≤ 39 → all_ascii_digits t ≡ true → digits_value 10 t < 2 ^ 128 → Some (digits_value 10 t) ≡ count_of t
unfolding count_of
count-some t a b c d = rw (lt-ltb 0 (length t) a, le-leb (length t) 39 b, c, lt-ltb (digits_value 10 t) (2 ^ 128) d) refl

-- nothing is no count
pub count-empty : (t : List ℕ) → length t ≡ 0 → None ≡ count_of t
unfolding count_of
count-empty t e = rw (le-ltb 0 (length t) (omega arith)) refl

-- 40 bytes or more are no count
pub count-long : (t : List ℕ) → 39 < length t → None ≡ count_of t
unfolding count_of
count-long t e = rw (lt-ltb 0 (length t) (omega arith), lt-leb (length t) 39 e) refl

-- a text with other bytes is no count
pub count-not : (t : List ℕ) → all_ascii_digits t ≡ false → None ≡ count_of t
unfolding count_of
count-not t e = elim (cases_Bool (ltb 0 (length t))) [
  | inl a ↦ elim (cases_Bool (leb (length t) 39)) [ inl b ↦ rw (a, b, e) refl | inr b ↦ rw (a, b) refl ]
  | inr a ↦ rw a refl
]

-- a value of 2 ^ 128 or more is that of no count
pub count-big : (t : List ℕ) → 2 ^ 128 ≤ digits_value 10 t → None ≡ count_of t
unfolding count_of
count-big t e = elim (cases_Bool (ltb 0 (length t))) [
  | inl a ↦ elim (cases_Bool (leb (length t) 39)) [
    | inl b ↦ elim (cases_Bool (all_ascii_digits t)) [
      | inl d ↦ rw (a, b, d, le-ltb (digits_value 10 t) (2 ^ 128) e) refl
      | inr d ↦ rw (a, b, d) refl
    ]
    | inr b ↦ rw (a, b) refl
  ]
  | inr a ↦ rw a refl
]

-- one more digit
pub value-step : (t : List ℕ) (i v : ℕ) → i < length t → is_ascii_digit (get_or t i 0) ≡ true → v ≡ digits_value 10 (take i t) → v * 10 + (get_or t i 0 - 48) ≡ digits_value 10 (take (i + 1) t)
value-step t i v l d e =
    let k : digit_value (get_or t i 0) ≡ get_or t i 0 - 48 = grind (arith, nat_tests) in
    rw (digits_value_more 10 t i l, k, ← e) refl

-- a value that is too great so far is that of no count
pub value-over : (t : List ℕ) (i : ℕ) → 2 ^ 128 ≤ digits_value 10 (take i t) → None ≡ count_of t
value-over t i h = count-big t (omega (arith, digits_value-take-le 10 t i (omega arith)))

-- the third of four tests that hold
and-third : (a b c d : Bool) → (a && (b && (c && d))) ≡ true → c ≡ true
and-third true true true d e = refl
and-third true true false d e = cc e
and-third true false c d e = cc e
and-third false b c d e = cc e

-- a count has digits alone
pub count-digits : (t : List ℕ) → is_count t ≡ true → all_ascii_digits t ≡ true
count-digits t e = and-third (ltb 0 (length t)) (leb (length t) 39) (all_ascii_digits t) (ltb (digits_value 10 t) (2 ^ 128)) e
