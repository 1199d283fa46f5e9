-- Signed numbers.
use Rattle.std.proofs.Common.{◌≡◌, ◌==◌, ◌<◌, ◌≤◌, ◌^◌, ◌-◌, ◌∷◌, ◌≢◌, [], ℕ, List, Option, Some, None, false, refl, sym, length, get_or, drop, take, arith, inl, inr}
use Rattle.std.specs.Prelude.{pos, neg_ℤ, ◌-ℤ◌, IfSome, option_map}
use Rattle.std.specs.Str.Parse.{digits_value}
use Rattle.std.specs.Int.{w128}
use Rattle.std.specs.Int.Signed.{mag}
use Rattle.std.proofs.Common.{to_z, of_z, suc, zero}
use Rattle.std.proofs.Math.IntN.{+ℤ_idl}
use Rattle.std.proofs.lemmas.Bool.{cases_Bool, ne_eqb}
use Rattle.std.proofs.lemmas.List.{take_all}
use Rattle.std.proofs.lemmas.Str.Parse.{tells_all_ascii_digits, digits_value_short, numerals_by_value}
use Rattle.std.proofs.lemmas.Int.{to_z_pos, to_z-of_z}
use Rattle.definitions.specs.Texts.{count_of, is_count}
use Rattle.definitions.specs.Texts.{signed_of, short_count_of}
use Rattle.table_text.proofs.CountFacts.{count-digits}

-- at most 38 digits have a value below 10 ^ 38
pub short-count : (t : List ℕ) (n : ℕ) → length t ≤ 38 → count_of t ≡ Some n → n < 10 ^ 38
unfolding count_of
short-count t n l e = elim (cases_Bool (is_count t)) [
  | inl is ↦
      let v : digits_value 10 t ≡ n = cc (rw is at e) in
      let digits = count-digits t is in
      rw (sym v) (digits_value_short (numerals_by_value _ tells_all_ascii_digits) t 38 digits l)
  | inr other ↦ cc (rw other at e)
]

-- nothing is no number
pub signed-nil : (t : List ℕ) → length t ≡ 0 → None ≡ signed_of t
unfolding signed_of
signed-nil [] e = refl
signed-nil (c ∷ t) e = cc e

-- a number after a minus sign
pub signed-minus : (t : List ℕ) → length t ≢ 0 → get_or t 0 0 ≡ 45 → signed_of t ≡ option_map (λ n. neg_ℤ (pos n)) (short_count_of (take (length t - 1) (drop 1 t)))
unfolding signed_of
signed-minus [] s e = absurd (s refl)
signed-minus (c ∷ t) s e = rw (e, take_all (length (c ∷ t) - 1) t (omega arith)) refl

-- a number without a minus sign
pub signed-plus : (t : List ℕ) → length t ≢ 0 → get_or t 0 0 ≢ 45 → signed_of t ≡ option_map (λ n. pos n) (short_count_of t)
unfolding signed_of
signed-plus [] s e = absurd (s refl)
signed-plus (c ∷ t) s e = rw (ne_eqb c 45 e) refl

-- the cast of a number of at most 38 digits
pub cast-plus : (n : ℕ) → n < 10 ^ 38 → to_z w128 n ≡ pos n
cast-plus n l = to_z_pos w128 n (omega (arith, l))

-- the size of a number below 0
mag-neg : (n : ℕ) → mag (neg_ℤ (pos n)) ≤ n
mag-neg zero = omega arith
mag-neg (suc n) = let e : mag (neg_ℤ (pos (suc n))) ≡ n = refl in omega (arith, e)

-- the negative of such a cast
pub cast-minus : (n : ℕ) → n < 10 ^ 38 → to_z w128 (of_z w128 (pos 0 -ℤ to_z w128 n)) ≡ neg_ℤ (pos n)
cast-minus n l = rw (cast-plus n l, +ℤ_idl (neg_ℤ (pos n))) (to_z-of_z w128 (neg_ℤ (pos n)) (record { sfits = omega (arith, mag-neg n, l) }))

-- a text that is not empty
pub some-length : (t : List ℕ) → false ≡ (length t == 0) → length t ≢ 0
some-length [] e z = cc e
some-length (c ∷ t) e z = cc z

-- the same of an answer
pub short-within : (t : List ℕ) (o : Option ℕ) → length t ≤ 38 → o ≡ count_of t → IfSome o (λ n. n < 10 ^ 38)
short-within t (Some n) l e = short-count t n l (sym e)
short-within t None l e = tt
