-- The second set is linked to the first, so that it isn't the least of its part.
use Rattle.std.proofs.Common.{refl, arith, ◌≡◌, ◌<◌, ◌⊎◌, ℕ, suc, zero, ◌∷◌, [], inl, inr}
use Rattle.std.specs.Prelude.{slice_index, All}
use Rattle.definitions.specs.Sides.{IsLeastOfPart}
use Rattle.definitions.specs.Examples.{two_pairs}
use Rattle.definitions.proofs.Computed.{apart_by_test}
use Rattle.definitions.proofs.examples.split_of_three.Goals as goal

least : (a : ℕ) → a < 3 → IsLeastOfPart two_pairs a → slice_index (1 ∷ 2 ∷ 1 ∷ []) a ≡ 1
least zero l h = refl
least (suc zero) l h = absurd (omega (arith, h 1 0 (1, omega arith, refl, refl)))
least (suc (suc zero)) l h = refl
least (suc (suc (suc a))) l h = absurd (omega (arith, l))

two : All (λ (s : ℕ). (s ≡ 1) ⊎ (s ≡ 2)) (1 ∷ 2 ∷ 1 ∷ [])
two zero d l = inl refl
two (suc zero) d l = inr refl
two (suc (suc zero)) d l = inl refl
two (suc (suc (suc k))) d l = absurd (omega (arith, l))

pub returns : goal.returns
returns c = (
  record { coloring = record { many = refl; two = two; apart = apart_by_test two_pairs (1 ∷ 2 ∷ 1 ∷ []) refl }; least_is_one = least },
  λ wrong. absurd (cc (wrong.least_is_one 0 (omega arith) (λ k b l. omega arith))),
  λ wrong. absurd (wrong.coloring.apart 1 2 (omega arith, omega arith) (omega arith, omega arith) refl refl),
)
