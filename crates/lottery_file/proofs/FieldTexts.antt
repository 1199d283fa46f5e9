-- The fields that are written, as they are read.
use Rattle.std.proofs.Common.{◌≡◌, ◌<◌, ◌≤◌, ◌^◌, ◌∷◌, [], ℕ, List, Some, Bool, true, ◌&&◌, not, nat_lt, nat_le, refl, length, map, arith}
use Rattle.std.specs.Prelude.{ℤ, pos, negsuc, codes, decimal, nat_abs, unsigned_abs, All}
use Rattle.std.specs.Fmt.{signed_decimal}
use Rattle.std.specs.List.{list_all}
use Rattle.std.specs.Str.{is_utf8, bytes_eq, chars, IsAscii}
use Rattle.std.specs.Int.Signed.{mag}
use Rattle.std.proofs.lemmas.Bool.{and_parts, ltb-true}
use Rattle.std.proofs.lemmas.Fmt.{IsAscii-decimal_wide, IsAscii-signed}
use Rattle.std.proofs.lemmas.List.Elements.{All-head, All-tail}
use Rattle.std.proofs.lemmas.Str.{is_utf8-from_IsUtf8, IsUtf8-from_ascii, chars-IsAscii}
use Rattle.std.proofs.lemmas.Str.Ascii.{IsAscii-nil, IsAscii-cons}
use Rattle.definitions.specs.Texts.{is_name, is_plain, null_name, signed_of, number}
use Rattle.lottery_file.specs.declared.words.Word.{Word}
use Rattle.lottery_file.specs.declared.words.Word.TheVariants as word
use Rattle.lottery_file.proofs.SaidWords.{name_of}
use Rattle.table_text.proofs.RoundTrips.{count_of-decimal, signed_of-signed_decimal}

ascii-from : (bs : List ℕ) → list_all (λ b. nat_lt b 128) bs ≡ true → IsAscii bs
ascii-from [] e = IsAscii-nil
ascii-from (b ∷ bs) e =
    let p = and_parts (nat_lt b 128) (list_all (λ b. nat_lt b 128) bs) e in
    IsAscii-cons b bs (ltb-true b 128 p.0) (ascii-from bs p.1)

-- bytes below 128 are text
ascii-text : (bs : List ℕ) → list_all (λ b. nat_lt b 128) bs ≡ true → is_utf8 bs ≡ true
ascii-text bs e = is_utf8-from_IsUtf8 bs (IsUtf8-from_ascii bs (ascii-from bs e))

-- the word of a record is text
pub word-text : (w : Word) → is_utf8 (name_of w) ≡ true
word-text word.Lottery = ascii-text (codes "lottery") refl
word-text word.Denominator = ascii-text (codes "denominator") refl
word-text word.Agents = ascii-text (codes "agents") refl
word-text word.Objects = ascii-text (codes "objects") refl
word-text word.Row = ascii-text (codes "row") refl
word-text word.Price = ascii-text (codes "price") refl
word-text word.Worth = ascii-text (codes "worth") refl
word-text word.Piece = ascii-text (codes "piece") refl
word-text word.Give = ascii-text (codes "give") refl
word-text word.End = ascii-text (codes "end") refl

-- `none` is a lawful name
pub null-name : is_name null_name ≡ true
null-name = rw (ascii-text null_name refl, chars-IsAscii null_name (ascii-from null_name refl)) refl

pub one-text : is_utf8 (codes "1") ≡ true
one-text = ascii-text (codes "1") refl

-- a number is text
pub decimal-text : (n : ℕ) → n < 2 ^ 128 → is_utf8 (decimal n) ≡ true
decimal-text n small = is_utf8-from_IsUtf8 (decimal n) (IsUtf8-from_ascii (decimal n) (IsAscii-decimal_wide n (omega arith)))

-- and so is a signed one
pub signed-text : (z : ℤ) → nat_abs z ≤ 2 ^ 40 → is_utf8 (signed_decimal z) ≡ true
signed-text z small = is_utf8-from_IsUtf8 (signed_decimal z) (IsUtf8-from_ascii (signed_decimal z) (IsAscii-signed z (size z small)))
  where
    size : (z : ℤ) → nat_abs z ≤ 2 ^ 40 → mag z < 2 ^ 63
    size (pos n) h = omega arith
    size (negsuc n) h = omega arith

-- a signed number reads as itself
pub signed-reads : (z : ℤ) → nat_abs z ≤ 2 ^ 40 → signed_of (signed_decimal z) ≡ Some z
signed-reads z small = signed_of-signed_decimal z (size z small)
  where
    size : (z : ℤ) → nat_abs z ≤ 2 ^ 40 → unsigned_abs z < 10 ^ 38
    size (pos n) h = omega arith
    size (negsuc n) h = omega arith

fourth : (a b c d e : Bool) → (a && (b && (c && (d && e)))) ≡ true → d ≡ true
fourth a b c d e h =
    let p = and_parts a (b && (c && (d && e))) h in
    let q = and_parts b (c && (d && e)) p.1 in
    let r = and_parts c (d && e) q.1 in
    (and_parts d e r.1).0

-- a lawful name is text
pub name-text : (name : List ℕ) → is_name name ≡ true → is_utf8 name ≡ true
name-text name e = fourth (nat_lt 0 (length name)) (nat_le (length name) 64) (not (bytes_eq name (codes "*"))) (is_utf8 name) (list_all is_plain (chars name)) e

-- and has bytes
pub name-some : (name : List ℕ) → is_name name ≡ true → 0 < length name
name-some [] e = cc
name-some (c ∷ name) e = omega arith

-- names that are lawful are text
pub names-text : (names : List (List ℕ)) → All (λ name. is_name name ≡ true) names → list_all is_utf8 names ≡ true
names-text [] h = refl
names-text (name ∷ names) h =
    rw (name-text name (All-head (λ (name : List ℕ). is_name name ≡ true) name names h), names-text names (All-tail (λ (name : List ℕ). is_name name ≡ true) name names h)) refl

-- numbers are text
pub decimals-text : (ns : List ℕ) → All (λ n. n < 2 ^ 128) ns → list_all is_utf8 (map decimal ns) ≡ true
decimals-text [] h = refl
decimals-text (n ∷ ns) h =
    rw (decimal-text n (All-head (λ (n : ℕ). n < 2 ^ 128) n ns h), decimals-text ns (All-tail (λ (n : ℕ). n < 2 ^ 128) n ns h)) refl

-- numbers read as themselves
pub decimals-read : (ns : List ℕ) → All (λ n. n < 2 ^ 128) ns → map number (map decimal ns) ≡ ns
decimals-read [] h = refl
decimals-read (n ∷ ns) h =
    rw (count_of-decimal n (All-head (λ (n : ℕ). n < 2 ^ 128) n ns h), decimals-read ns (All-tail (λ (n : ℕ). n < 2 ^ 128) n ns h)) refl
