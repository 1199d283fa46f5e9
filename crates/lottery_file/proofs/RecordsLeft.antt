-- What is left of a list after so many entries.
use Rattle.std.proofs.Common.{◌≡◌, ℕ, zero, suc, ◌<◌, ◌≤◌, List, [], ◌∷◌, length, get_or, drop, arith}

pub left-next : {X : Type 0} (xs : List X) (n : ℕ) (x : X) (ys : List X) (d : X) → drop n xs ≡ x ∷ ys → (n < length xs) × (get_or xs n d ≡ x) × (drop (suc n) xs ≡ ys)
left-next [] zero x ys d e = absurd (cc e)
left-next [] (suc n) x ys d e = absurd (cc e)
left-next (z ∷ xs) zero x ys d e = (omega arith, cc e, cc e)
left-next (z ∷ xs) (suc n) x ys d e = (let r = left-next xs n x ys d e in (omega (arith, r.0), r.1, r.2))

pub left-none : {X : Type 0} (xs : List X) (n : ℕ) → drop n xs ≡ [] → length xs ≤ n
left-none [] n e = omega arith
left-none (z ∷ xs) zero e = absurd (cc e)
left-none (z ∷ xs) (suc n) e = (let r = left-none xs n e in omega (arith, r))
