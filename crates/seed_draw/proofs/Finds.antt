-- The first number of a range that passes a test.
use Rattle.std.proofs.Common.{◌≡◌, ℕ, zero, suc, ◌+◌, ◌<◌, ◌≤◌, Bool, true, false, cond, Option, Some, ◌∙◌, ap, inl, inr, arith}
use Rattle.std.specs.List.{find, range_with_len}
use Rattle.std.proofs.lemmas.Bool.{cases_eq}

-- m is the first number of the range that passes
pub find_first : (p : ℕ → Bool) (n a m : ℕ) → a ≤ m → m < a + n → p m ≡ true → ((k : ℕ) → a ≤ k → k < m → p k ≡ false) → find p (range_with_len a n) ≡ Some m
find_first p zero a m low high holds before = absurd (omega arith)
find_first p (suc n) a m low high holds before =
    let rest : Option ℕ = find p (range_with_len (a + 1) n) in
    elim (cases_eq a m) [
      | inl e ↦ let h : p a ≡ true = ap p e ∙ holds in ap (λ b. cond b (Some a) rest) h ∙ ap (λ x. Some x) e
      | inr ne ↦ let differ : a ≡ m → ⊥ = ne in
          let h : p a ≡ false = before a (omega arith) (omega arith) in
          ap (λ b. cond b (Some a) rest) h ∙ find_first p n (a + 1) m (omega arith) (omega arith) holds (λ k l u. before k (omega arith) u)
    ]
