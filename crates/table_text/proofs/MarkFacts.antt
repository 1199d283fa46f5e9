-- The byte order mark.
use Rattle.std.proofs.Common.{◌≡◌, ◌<◌, ◌≤◌, [], ◌∷◌, ℕ, List, true, false, refl, length, get_or, drop, take, arith, ◌∙◌, ◌-◌}
use Rattle.std.proofs.lemmas.List.{take_all}
use Rattle.csv.specs.Reading.{is_bom, strip_bom}

-- fewer than three bytes have no mark
pub mark-short : (xs : List ℕ) → length xs < 3 → xs ≡ strip_bom xs
unfolding strip_bom
mark-short [] l = refl
mark-short (a ∷ []) l = refl
mark-short (a ∷ b ∷ []) l = refl
mark-short (a ∷ b ∷ c ∷ xs) l = absurd (omega arith)

-- a mark is left off
pub mark-off : (xs : List ℕ) → 3 ≤ length xs → true ≡ is_bom (get_or xs 0 0) (get_or xs 1 0) (get_or xs 2 0) → take (length xs - 3) (drop 3 xs) ≡ strip_bom xs
unfolding strip_bom
mark-off [] l h = absurd (omega arith)
mark-off (a ∷ []) l h = absurd (omega arith)
mark-off (a ∷ b ∷ []) l h = absurd (omega arith)
mark-off (a ∷ b ∷ c ∷ xs) l h = take_all _ xs (omega arith) ∙ rw (← h) refl

-- without a mark all bytes stay
pub mark-none : (xs : List ℕ) → 3 ≤ length xs → false ≡ is_bom (get_or xs 0 0) (get_or xs 1 0) (get_or xs 2 0) → xs ≡ strip_bom xs
unfolding strip_bom
mark-none [] l h = absurd (omega arith)
mark-none (a ∷ []) l h = absurd (omega arith)
mark-none (a ∷ b ∷ []) l h = absurd (omega arith)
mark-none (a ∷ b ∷ c ∷ xs) l h = rw (← h) refl
