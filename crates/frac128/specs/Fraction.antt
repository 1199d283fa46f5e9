-- What contracts see of a fraction: its numerator, its denominator, and the order of the values.
use Rattle.std.specs.Prelude.{ℕ}
use Rattle.std.specs.declared.cmp.Ordering.{Ordering}
use Rattle.frac128.specs.Order.{cross_cmp}
use Rattle.frac128.specs.declared.fractions.Fraction.{Fraction}

-- the numerator, in lowest terms
abbrev pub numerator : Fraction → ℕ
numerator x = x.num

-- the denominator, in lowest terms and at least 1
abbrev pub denominator : Fraction → ℕ
denominator x = x.den

-- how the values compare
abbrev pub fraction_cmp : Fraction → Fraction → Ordering
fraction_cmp x y = cross_cmp (numerator x) (denominator x) (numerator y) (denominator y)
