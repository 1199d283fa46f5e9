-- The shares of the mixed spellings over their least common denominator.
use Rattle.std.proofs.Common.{refl, arith, ◌∷◌, [], ◌≡◌, ◌*◌, ◌%◌, ◌<◌, ℕ, suc, zero, Some, get_or, length, subst}
use Prim.Native.Nat.{◌∣◌}
use Rattle.std.specs.Prelude.{slice_get, slice_index}
use Rattle.std.proofs.Math.Nat.{one-mul}
use Rattle.std.proofs.lemmas.Option.{same_Some}
use Rattle.std.proofs.lemmas.Nat.Gcd.{dvd_of_mod-eq-zero, mod-eq-zero_of_dvd}
use Rattle.definitions.specs.Scaling.{IsScaled}
use Rattle.definitions.specs.Values.{Ratio}
use Rattle.definitions.specs.Examples.{mixed_shares, units_over}

divides : (m n : ℕ) → n % m ≡ 0 → m ∣ n
divides m n e = dvd_of_mod-eq-zero m e

-- 12 is the least common denominator of 1/4, 1/3 and 2
pub mixed_scale : IsScaled mixed_shares (units_over 12 1 3 (3 ∷ 4 ∷ 24 ∷ []))
mixed_scale = record {
  entries = refl;
  agents = refl;
  columns = refl;
  shape = refl;
  least = record {
    low = omega arith;
    common = λ k s l. common k s l;
    least = λ e h. twelve e (mod-eq-zero_of_dvd 4 (subst (λ n. 4 ∣ n) (one-mul e) (h 0 one (omega arith)))) (mod-eq-zero_of_dvd 3 (subst (λ n. 3 ∣ n) (one-mul e) (h 1 one (omega arith))));
  };
  units = entry;
}
  where
    one : Ratio
    one = record { num = 1; den = 1 }

    twelve : (e : ℕ) → e % 4 ≡ 0 → e % 3 ≡ 0 → 12 ∣ e
    twelve e a b = divides 12 e (omega (arith, a, b))

    common : (k : ℕ) (s : Ratio) → k < length mixed_shares.entries → (get_or mixed_shares.entries k s).den ∣ (get_or mixed_shares.entries k s).num * 12
    common zero s l = divides 4 12 refl
    common (suc zero) s l = divides 3 12 refl
    common (suc (suc zero)) s l = divides 1 24 refl
    common (suc (suc (suc k))) s l = absurd (omega (arith, l))

    entry : (k : ℕ) (s : Ratio) → slice_get mixed_shares.entries k ≡ Some s → slice_index (3 ∷ 4 ∷ 24 ∷ []) k * s.den ≡ s.num * 12
    entry zero s e = subst (λ (r : Ratio). 3 * r.den ≡ r.num * 12) (same_Some (record { num = 1; den = 4 }) s e) refl
    entry (suc zero) s e = subst (λ (r : Ratio). 4 * r.den ≡ r.num * 12) (same_Some (record { num = 1; den = 3 }) s e) refl
    entry (suc (suc zero)) s e = subst (λ (r : Ratio). 24 * r.den ≡ r.num * 12) (same_Some (record { num = 2; den = 1 }) s e) refl
    entry (suc (suc (suc k))) s e = cc e
