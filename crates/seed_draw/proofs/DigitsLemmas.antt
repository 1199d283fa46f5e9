-- The number of binary digits.
use Rattle.std.proofs.Common.{◌≡◌, ℕ, suc, ◌+◌, ◌*◌, ◌^◌, ◌<◌, ◌≤◌, nat_lt, unwrap_or, ap, arith}
use Rattle.std.proofs.lemmas.Bool.Decides.{nat_tests}
use Rattle.std.proofs.Math.Nat.{pow-le-pow_right, pow-suc}
use Rattle.definitions.specs.Tickets.{binary_digits}
use Rattle.seed_draw.proofs.Finds.{find_first}

below_power : (n b m : ℕ) → b < m → 2 ^ m ≤ 2 * n + 1 → 2 ^ b ≤ n
below_power n b m l h = omega (arith, pow-le-pow_right {n = 2} (omega arith) {i = suc b} {j = m} (omega arith), pow-suc 2 b)

-- n has m binary digits where 2^m is the first power of two above it
pub binary_digits_unique : (n m : ℕ) → m ≤ 128 → n < 2 ^ m → 2 ^ m ≤ 2 * n + 1 → binary_digits n ≡ m
unfolding binary_digits
binary_digits_unique n m w h g = ap (λ o. unwrap_or o 129) (find_first (λ b. nat_lt n (2 ^ b)) 129 0 m (omega arith) (omega arith) (grind (arith, nat_tests)) (λ k l u. let f = below_power n k m u g in grind (arith, nat_tests)))
