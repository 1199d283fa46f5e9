use Rattle.std.proofs.Common.{◌≡◌, ℕ, ◌%◌, refl, sym, subst, arith}
use Rattle.std.specs.Int.{◌∣◌}
use Rattle.std.proofs.lemmas.Nat.Gcd.{dvd_of_mod-eq-zero}
use Rattle.frac128.proofs.tests.fractions_and_multiples.Goals as goal

divides_as : (d k n : ℕ) → d ≡ k → n % k ≡ 0 → d ∣ n
divides_as d k n e h = subst (λ m. m ∣ n) (sym e) (dvd_of_mod-eq-zero k h)

pub later-requires-clause-divides : goal.later-requires-clause-divides
later-requires-clause-divides g c = divides_as c.new-half.result.den 2 6 (omega arith) refl
