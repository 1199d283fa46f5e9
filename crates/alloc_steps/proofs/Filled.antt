-- A piece that is put into a list of counts, cell by cell.
use Rattle.std.proofs.Common.{◌≡◌, ℕ, ◌+◌, ◌*◌, ◌<◌, ◌≤◌, ◌≢◌, refl, List, length, set, get_or, Option, Some, None, sym, ap, ◌∙◌, subst, arith, inl, inr, get_or-set_other, get_or-set_same}
use Rattle.std.specs.Prelude.{IsSome, IfSome, All}
use Rattle.std.proofs.lemmas.Bool.{cases_lt}
use Rattle.std.proofs.lemmas.Grind.{same_number_lists}
use Rattle.definitions.specs.Peelings.{PeelerValue}
use Rattle.peeling.specs.Peelers.{IsPeeler}
use Rattle.alloc_steps.specs.Filling.{IsFilledBefore}

-- one cell more
pub filled_more : (v : PeelerValue) (at n : ℕ) (counts : List ℕ) → at < length counts → ((m : List ℕ) → v.piece ≡ Some m → n ≡ get_or m at 0)
    → IsFilledBefore v at counts → IsFilledBefore v (at + 1) (set counts at n)
filled_more v at n counts within here before m e k h = elim (cases_lt k at) [
  | inl earlier ↦ (let other : k ≢ at = omega arith in rw get_or-set_other (before m e k earlier))
  | inr last ↦ (let same : at ≡ k = omega arith in let P : ℕ → Type 0 = λ j. get_or (set counts at n) j 0 ≡ get_or m j 0 in subst P same (get_or-set_same counts at n 0 within ∙ here m e))
]

-- all cells
pub filled_all : (v : PeelerValue) (at : ℕ) (counts : List ℕ) → IsPeeler v → IsSome v.piece → at ≡ v.agents * v.columns → length counts ≡ v.agents * v.columns
    → IsFilledBefore v at counts → v.piece ≡ Some counts
filled_all v at counts lawful given all cells before = by_piece v.piece given lawful.piece before
  where
    by_piece : (o : Option (List ℕ)) → IsSome o → IfSome o (λ m. (length m ≡ v.agents * v.columns) × All (λ n. n ≤ 1000) m)
        → ((m : List ℕ) → o ≡ Some m → (k : ℕ) → k < at → get_or counts k 0 ≡ get_or m k 0) → o ≡ Some counts
    by_piece None some shape same = cc
    by_piece (Some m) some shape same = ap Some (sym (same_number_lists counts m (cells ∙ sym shape.0) (λ k h. same m refl k (omega (arith, h, all, cells)))))
