-- By tests that compute. The slower one's denominator isn't above 2^116; 2 divides all numbers of the doubled table.
use Rattle.std.proofs.Math.Dec.{lit<, lit≤}
use Rattle.std.proofs.Common.{refl, arith, ◌∷◌, [], ℕ, zero, suc, ◌<◌, ◌^◌, ◌+◌}
use Rattle.std.proofs.lemmas.Nat.Gcd.{dvd_of_mod-eq-zero, le_of_dvd}
use Prim.Native.Nat.{◌∣◌}
use Rattle.definitions.specs.Eating.{IsLowestTerms, moment_at, eaten_by, eaten_from, eaten_along, full_at}
use Rattle.definitions.specs.Examples.{quick_market}
use Rattle.definitions.proofs.Computed.{partial_by_tests}
use Rattle.definitions.proofs.examples.too_fine_at_once.Goals as goal

-- the moment 1 leaves no common divisor
lowest : (D : ℕ) → IsLowestTerms D (1 ∷ [])
lowest D = record { lowest = λ f whole each. le_of_dvd (omega arith) (each 0 (omega arith)) }

doubled : (j : ℕ) → 2 ∣ moment_at (2 ∷ []) j
doubled zero = dvd_of_mod-eq-zero 2 refl
doubled (suc j) = dvd_of_mod-eq-zero 2 refl

-- no limit is full before the moment 1
none_before : (D j : ℕ) → j < 1 → moment_at (1 ∷ []) j < 1 → D ∣ moment_at (1 ∷ []) j
none_before D zero l before = absurd (omega (arith, before))
none_before D (suc j) l before = absurd (omega (arith, l))

pub returns : goal.returns
unfolding eaten_by eaten_from eaten_along full_at
returns c = (
  record {
    partial = partial_by_tests (quick_market (2 ^ 116 + 1)) (2 ^ 116 + 1) 1 (1 ∷ []) refl refl refl (0, omega arith, refl) refl refl;
    lowest = lowest (2 ^ 116 + 1);
    above = lit< tt;
    fits_before = (2 ^ 116 + 1, 1, refl, lit≤ tt, none_before (2 ^ 116 + 1));
  },
  λ wrong. absurd (omega (arith, wrong.above)),
  λ wrong. absurd (omega (arith, wrong.lowest.lowest 2 (dvd_of_mod-eq-zero 2 refl) (λ j l. doubled j))),
)
