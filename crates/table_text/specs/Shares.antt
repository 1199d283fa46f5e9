-- The values of two of the forms of a share.
use Rattle.std.specs.Prelude.{ℕ, ◌^◌, ◌++◌, List, length, Option, Some, None, if◌then◌else◌}
use Rattle.std.specs.Str.Parse.{digits_value}
use Rattle.definitions.specs.Texts.{is_decimal, is_quotient, number, part_after, part_before}
use Rattle.definitions.specs.Values.{Ratio}

-- a numerator and a denominator as a fraction
abbrev pub ratio_of : ℕ × ℕ → Ratio
ratio_of share = record { num = share.0; den = share.1 }

-- a count over a count of at least 1
abbrev pub quotient_of : List ℕ → Option Ratio
quotient_of text = if is_quotient text then Some (record { num = number (part_before 47 text); den = number (part_after 47 text) }) else None

-- digits with a decimal point among them, over a power of ten
abbrev pub decimal_of : List ℕ → Option Ratio
decimal_of text =
    if is_decimal text then Some (record { num = digits_value 10 (part_before 46 text ++ part_after 46 text); den = 10 ^ length (part_after 46 text) })
    else None
