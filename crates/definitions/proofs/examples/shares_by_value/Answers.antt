-- One half is whole over 2, and a number over which it is whole is even.
use Rattle.std.proofs.Common.{refl, arith, ℕ, ◌≡◌, ◌<◌, ◌*◌, ◌%◌, ◌∷◌, [], zero, suc, Some, subst, get_or, length}
use Rattle.std.specs.Prelude.{slice_get, slice_index}
use Rattle.std.proofs.lemmas.Option.{same_Some}
use Rattle.std.proofs.lemmas.Nat.Gcd.{dvd_of_mod-eq-zero, mod-eq-zero_of_dvd, le_of_dvd}
use Prim.Native.Nat.{◌∣◌}
use Rattle.definitions.specs.Values.{Ratio}
use Rattle.definitions.specs.Scaling.{IsScaled}
use Rattle.definitions.specs.Examples.{one_half, units_over}
use Rattle.definitions.proofs.examples.shares_by_value.Goals as goal

abbrev half : Ratio
half = record { num = 2; den = 4 }

even : (e : ℕ) → (2 * e) % 4 ≡ 0 → 2 ∣ e
even e h = let twice : e % 2 ≡ 0 = omega (arith, h) in dvd_of_mod-eq-zero 2 twice

halved : IsScaled one_half (units_over 2 1 1 (1 ∷ []))
halved = record {
  entries = refl;
  agents = refl;
  columns = refl;
  shape = refl;
  least = record {
    low = omega arith;
    common = common;
    least = λ e h. even e (mod-eq-zero_of_dvd 4 (h 0 half (omega arith)));
  };
  units = entry;
}
  where
    common : (k : ℕ) (s : Ratio) → k < length one_half.entries → (get_or one_half.entries k s).den ∣ (get_or one_half.entries k s).num * 2
    common zero s l = dvd_of_mod-eq-zero 4 refl
    common (suc k) s l = absurd (omega (arith, l))

    entry : (k : ℕ) (s : Ratio) → slice_get one_half.entries k ≡ Some s → slice_index (1 ∷ []) k * s.den ≡ s.num * 2
    entry zero s e = subst (λ (r : Ratio). 1 * r.den ≡ r.num * 2) (same_Some half s e) refl
    entry (suc k) s e = cc e

pub returns : goal.returns
returns c = (
  halved,
  λ wrong. absurd (omega (arith, le_of_dvd (omega arith) (wrong.least.least 2 halved.least.common))),
  λ wrong. absurd (cc (wrong.entries)),
)
