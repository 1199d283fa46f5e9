-- One more number.
use Rattle.std.proofs.Common.{◌≡◌, ◌+◌, ◌++◌, ◌∷◌, [], ℕ, suc, zero, refl, arith}
use Rattle.std.specs.List.{range_with_len}

pub range_more : (a n j : ℕ) → a + n ≡ j → range_with_len a (n + 1) ≡ range_with_len a n ++ j ∷ []
range_more a zero j e = let s : a ≡ j = omega arith in rw s refl
range_more a (suc n) j e =
    let more = range_more (a + 1) n j (omega arith) in
    let g : suc n + 1 ≡ suc (n + 1) = omega arith in
    rw (g, more) refl
