-- A number that is written reads back as itself.
use Rattle.std.proofs.Common.{◌≡◌, ◌≢◌, ◌<◌, ◌^◌, ◌∙◌, ℕ, suc, Some, refl, sym, ap, get_or, length, arith}
use Rattle.std.specs.Prelude.{ℤ, pos, negsuc, unsigned_abs, decimal}
use Rattle.std.specs.Fmt.{signed_decimal}
use Rattle.std.specs.Str.Parse.{digits_value}
use Rattle.std.proofs.lemmas.Bool.{le-leb}
use Rattle.std.proofs.lemmas.Fmt.{decimal_is_IsNumeral_wide, length-decimal-le_wide}
use Rattle.std.proofs.lemmas.Str.Parse.{digit_at, numerals_by_value, tells_all_ascii_digits}
use Rattle.definitions.specs.Texts.{count_of, short_count_of, signed_of}
use Rattle.table_text.proofs.CountFacts.{count-some}
use Rattle.table_text.proofs.SignedFacts.{signed-plus}

-- a count
pub count_of-decimal : (n : ℕ) → n < 2 ^ 128 → count_of (decimal n) ≡ Some n
count_of-decimal n small =
    let d = decimal_is_IsNumeral_wide n (omega arith) in
    let digits = (numerals_by_value _ tells_all_ascii_digits).from (decimal n) d.0.1 in
    let short = length-decimal-le_wide 39 n (omega arith) (omega arith) (omega arith) in
    let small_value : digits_value 10 (decimal n) < 2 ^ 128 = rw d.1 small in
    sym (count-some (decimal n) d.0.0 short digits small_value) ∙ ap (λ (v : ℕ). Some v) d.1

-- a count of at most 38 digits
short_count_of-decimal : (n : ℕ) → n < 10 ^ 38 → short_count_of (decimal n) ≡ Some n
unfolding short_count_of
short_count_of-decimal n small =
    let short = length-decimal-le_wide 38 n (omega arith) small (omega arith) in
    rw (le-leb (length (decimal n)) 38 short) (count_of-decimal n (omega arith))

-- a signed number of at most 38 digits
pub signed_of-signed_decimal : (z : ℤ) → unsigned_abs z < 10 ^ 38 → signed_of (signed_decimal z) ≡ Some z
unfolding signed_of
signed_of-signed_decimal (pos n) small =
    let d = decimal_is_IsNumeral_wide n (omega arith) in
    let some : length (decimal n) ≢ 0 = λ z. omega (arith, d.0.0, z) in
    let first = digit_at (decimal n) 0 d.0.1 d.0.0 in
    let plain : get_or (decimal n) 0 0 ≢ 45 = λ z. omega (arith, first.0, z) in
    signed-plus (decimal n) some plain ∙ rw (short_count_of-decimal n small) refl
signed_of-signed_decimal (negsuc n) small = rw (short_count_of-decimal (suc n) small) refl
