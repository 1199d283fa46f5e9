-- The grammars of numbers and names, over bytes. The project's own.
use Rattle.std.specs.Prelude.{ℕ, ◌^◌, ◌==◌, ◌&&◌, ◌||◌, Bool, not, List, [], ◌∷◌, ◌++◌, length, Option, Some, None, option_map, nat_lt, nat_le, if◌then◌else◌, codes, unwrap_or, slice_index_or, ℤ, pos, neg_ℤ}
use Rattle.std.specs.List.{list_all, list_any, position, before_first, after_first}
use Rattle.std.specs.Str.{all_ascii_digits, bytes_eq, is_utf8, chars}
use Rattle.std.specs.Str.Parse.{digits_value}
use Rattle.definitions.specs.Values.{Ratio}

-- a record of a text: its fields, each as its bytes
abbrev pub Row : Type 0
Row = List (List ℕ)

-- a field of a record, from 0, and nothing where it has none
abbrev pub field : Row → ℕ → List ℕ
field row i = slice_index_or row i []

-- the first field of a record, and nothing where it has none
abbrev pub first_field : Row → List ℕ
first_field row = field row 0

-- from `low` to `high` decimal digits, and nothing else
abbrev pub is_digits : ℕ → ℕ → List ℕ → Bool
is_digits low high text = nat_le low (length text) && (nat_le (length text) high && all_ascii_digits text)

-- a count: 1 to 39 decimal digits, with a value below 2^128
abbrev pub is_count : List ℕ → Bool
is_count text = nat_lt 0 (length text) && (nat_le (length text) 39 && (all_ascii_digits text && nat_lt (digits_value 10 text) (2 ^ 128)))

-- the value of a count
unfoldable pub count_of : List ℕ → Option ℕ
count_of text = if is_count text then Some (digits_value 10 text) else None

-- the value of a count, and 0 where the text is none
abbrev pub number : List ℕ → ℕ
number text = unwrap_or (count_of text) 0

-- the value of a count of at most 38 digits
unfoldable pub short_count_of : List ℕ → Option ℕ
short_count_of text = if nat_le (length text) 38 then count_of text else None

-- the value of a signed number: 1 to 38 digits, or `-` and 1 to 38 digits
unfoldable pub signed_of : List ℕ → Option ℤ
signed_of [] = None
signed_of (c ∷ text) =
    if c == 45 then option_map (λ n. neg_ℤ (pos n)) (short_count_of text)
    else option_map (λ n. pos n) (short_count_of (c ∷ text))

-- the value of a signed number, and 0 where the text is none
abbrev pub signed : List ℕ → ℤ
signed text = unwrap_or (signed_of text) (pos 0)

-- the text before the first such byte, or all of it
abbrev pub part_before : ℕ → List ℕ → List ℕ
part_before byte text = before_first (λ c. c == byte) text

-- the text after the first such byte, or nothing
abbrev pub part_after : ℕ → List ℕ → List ℕ
part_after byte text = after_first (λ c. c == byte) text

-- a count, `/`, and a count of at least 1
abbrev pub is_quotient : List ℕ → Bool
is_quotient text = is_count (part_before 47 text) && (is_count (part_after 47 text) && nat_lt 0 (number (part_after 47 text)))

-- 1 to 8 digits, `.`, and 1 to 30 digits
abbrev pub is_decimal : List ℕ → Bool
is_decimal text = is_digits 1 8 (part_before 46 text) && is_digits 1 30 (part_after 46 text)

-- the value of a share, not reduced: 0 over 1 for the empty text; a count over 1; the first count over the second;
-- all digits as one number over 10 to the number of digits after the point
unfoldable pub share_of : List ℕ → Option Ratio
share_of text =
    if length text == 0 then Some (record { num = 0; den = 1 })
    else if is_count text then Some (record { num = number text; den = 1 })
    else if is_quotient text then Some (record { num = number (part_before 47 text); den = number (part_after 47 text) })
    else if is_decimal text then Some (record { num = digits_value 10 (part_before 46 text ++ part_after 46 text); den = 10 ^ length (part_after 46 text) })
    else None

-- a code point that a name may have: not below 32, and not from 127 to 159
abbrev pub is_plain : ℕ → Bool
is_plain c = nat_le 32 c && (nat_lt c 127 || nat_lt 159 c)

-- a lawful name: 1 to 64 bytes of UTF-8 with plain code points, and not `*`
abbrev pub is_name : List ℕ → Bool
is_name text = nat_lt 0 (length text) && (nat_le (length text) 64 && (not (bytes_eq text (codes "*")) && (is_utf8 text && list_all is_plain (chars text))))

-- the name of the null object
abbrev pub null_name : List ℕ
null_name = codes "none"

-- the name is among these
abbrev pub has_name : List (List ℕ) → List ℕ → Bool
has_name names name = list_any (bytes_eq name) names

-- where the name stands among these, from 0
abbrev pub name_index : List (List ℕ) → List ℕ → Option ℕ
name_index names name = position (bytes_eq name) names
