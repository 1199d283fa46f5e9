-- The order in which limits queue up.
use Rattle.std.specs.Prelude.{ℕ, ◌*◌, ◌<◌, ◌≤◌, Option, Some, None}
use Rattle.std.proofs.Common.{arith, mul_comm, mul-le-mul_left}
use Rattle.std.proofs.Math.Nat.{le_of_mul-le-mul_right}
use Rattle.frac128.specs.Fraction.{numerator, denominator}
use Rattle.frac128.specs.declared.fractions.Fraction.{Fraction}

-- the first moment is no later than the second. None at all is the last
abbrev pub IsNoLaterThan : Option Fraction → Option Fraction → Type 0
IsNoLaterThan None None = Unit {0}
IsNoLaterThan None (Some b) = ⊥
IsNoLaterThan (Some a) None = Unit {0}
IsNoLaterThan (Some a) (Some b) = numerator a * denominator b ≤ numerator b * denominator a

-- an order of products with the same factor
pub le_from_product : (c x y : ℕ) → 0 < c → c * x ≤ c * y → x ≤ y
le_from_product c x y p h = le_of_mul-le-mul_right (omega (arith, h, mul_comm c x, mul_comm c y)) p

-- an order of fractions carries over to a product with the same factor
pub through : (k l k' l' a b : ℕ) → 0 < l → k' * l ≤ k * l' → k * a ≤ b * l → k' * a ≤ b * l'
through k l k' l' a b p h g =
    le_from_product l (k' * a) (b * l') p
    (let one : a * (k' * l) ≤ a * (k * l') = mul-le-mul_left a h in
    let two : l' * (k * a) ≤ l' * (b * l) = mul-le-mul_left l' g in
    omega arith)

-- a moment is no later than itself
pub no_later_same : (a : Option Fraction) → IsNoLaterThan a a
no_later_same None = tt
no_later_same (Some a) = omega arith

-- and no later than what a later one is no later than
pub no_later_chain : (a b c : Option Fraction) → IsNoLaterThan a b → IsNoLaterThan b c → IsNoLaterThan a c
no_later_chain None None None p q = tt
no_later_chain None (Some b) None p q = tt
no_later_chain (Some a) None None p q = tt
no_later_chain (Some a) (Some b) None p q = tt
no_later_chain None None (Some c) p q = q
no_later_chain None (Some b) (Some c) p q = absurd p
no_later_chain (Some a) None (Some c) p q = absurd q
no_later_chain (Some a) (Some b) (Some c) p q = through (numerator b) (denominator b) (numerator a) (denominator a) (denominator c) (numerator c) b.positive p q
