-- The table of parents with one more set.
use Rattle.std.proofs.Common.{◌≡◌, ℕ, ◌+◌, ◌-◌, ◌<◌, ◌++◌, List, [], ◌∷◌, Option, None, length, get_or, sym, subst, inl, inr, arith}
use Rattle.std.specs.Prelude.{MatchOption}
use Rattle.std.proofs.lemmas.List.{get_or_append_left, get_or_push}
use Rattle.definitions.specs.Sets.{FamilyValue, IsSet}
use Rattle.definitions.specs.Hierarchies.{HasNoParent, IsParent}
use Rattle.bihierarchy.proofs.Least.{below_next}

-- what the table says of a set
abbrev pub IsParentEntry : FamilyValue → ℕ → Option ℕ → Type 0
IsParentEntry f s o = MatchOption o (HasNoParent f s) (IsParent f s)

-- the table with one more set
pub parents_more : (f : FamilyValue) (parents : List (Option ℕ)) (o : Option ℕ) (n : ℕ) → length parents + 1 ≡ n
    → ((s : ℕ) → IsSet f s → s < n → IsParentEntry f s (get_or parents (s - 1) None)) → IsParentEntry f n o
    → (s : ℕ) → IsSet f s → s < n + 1 → IsParentEntry f s (get_or (parents ++ o ∷ []) (s - 1) None)
parents_more f parents o n many before here s known l = elim (below_next s n l) [
  | inl less ↦ subst (λ (e : Option ℕ). IsParentEntry f s e) (sym (get_or_append_left parents (o ∷ []) None (s - 1) (omega (arith, known.0, many, less)))) (before s known less)
  | inr same ↦
      let last : get_or (parents ++ o ∷ []) (s - 1) None ≡ o = get_or_push parents o None (s - 1) (omega (arith, many, same)) in
      subst (λ (e : Option ℕ). IsParentEntry f s e) (sym last) (subst (λ (u : ℕ). IsParentEntry f u o) (sym same) here)
]
