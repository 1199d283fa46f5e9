-- The least set so far by size and then number.
use Rattle.std.proofs.Common.{◌≡◌, ◌⊎◌, ℕ, ◌+◌, ◌<◌, Bool, true, false, Option, None, Some, sym, subst, inl, inr, arith}
use Rattle.std.specs.Prelude.{◌↔◌, IsTrue, MatchOption, IfSome}
use Rattle.std.proofs.lemmas.Bool.{both_ways, cases_lt}
use Rattle.definitions.specs.Sets.{FamilyValue, set_size}
use Rattle.definitions.specs.Hierarchies.{IsLower}
use Rattle.definitions.proofs.Families.{lower_through}
use Rattle.bihierarchy.specs.Tables.{IsLeastOf}

-- of two sets one is lower, or they are one
lower_or : (f : FamilyValue) (s t : ℕ) → (IsLower f s t → ⊥) → (s ≡ t) ⊎ IsLower f t s
lower_or f s t never = elim (cases_lt (set_size f t) (set_size f s)) [
  | inl less ↦ inr (inl less)
  | inr rest ↦ elim (cases_lt (set_size f s) (set_size f t)) [
    | inl less ↦ absurd (never (inl less))
    | inr back ↦ elim (cases_lt s t) [
      | inl before ↦ absurd (never (inr (omega (arith, rest, back), before)))
      | inr from ↦ elim (cases_lt t s) [
        | inl after ↦ inr (inr (omega (arith, rest, back), after))
        | inr upto ↦ inl (omega (arith, from, upto))
      ]
    ]
  ]
]

pub below_next : (u n : ℕ) → u < n + 1 → (u < n) ⊎ (u ≡ n)
below_next u n l = elim (cases_lt u n) [ inl less ↦ inl less | inr from ↦ inr (omega (arith, l, from)) ]

module _ (f : FamilyValue) (P : ℕ → Type 0) where
  -- the next set is none of those
  pub least_same : (n : ℕ) (o : Option ℕ) → (P n → ⊥) → IsLeastOf f P n o → IsLeastOf f P (n + 1) o
  least_same n None never h = λ u l p. elim (below_next u n l) [ inl less ↦ h u less p | inr here ↦ never (subst P here p) ]
  least_same n (Some t) never h = (h.0, λ u l p. elim (below_next u n l) [ inl less ↦ h.1 u less p | inr here ↦ absurd (never (subst P here p)) ])

  -- the next set is not lower than the least so far
  least_kept : (n t : ℕ) → (IsLower f n t → ⊥) → IsLeastOf f P n (Some t) → IsLeastOf f P (n + 1) (Some t)
  least_kept n t never h = (
    h.0,
    λ u l p. elim (below_next u n l) [
      | inl less ↦ h.1 u less p
      | inr here ↦ subst (λ (v : ℕ). (v ≡ t) ⊎ IsLower f t v) (sym here) (lower_or f n t never)
    ],
  )

  -- the next set is the least
  least_new : (n : ℕ) (o : Option ℕ) → P n → IfSome o (IsLower f n) → IsLeastOf f P n o → IsLeastOf f P (n + 1) (Some n)
  least_new n None here low h = (here, λ u l p. elim (below_next u n l) [ inl less ↦ absurd (h u less p) | inr same ↦ inl same ])
  least_new n (Some t) here low h = (
    here,
    λ u l p. elim (below_next u n l) [
      | inl less ↦ elim (h.1 u less p) [
        | inl best ↦ inr (subst (λ (v : ℕ). IsLower f n v) (sym best) low)
        | inr above ↦ inr (lower_through f n t u low above)
      ]
      | inr same ↦ inl same
    ],
  )

  -- what a test against the least so far says
  abbrev pub IsTested : ℕ → Option ℕ → Bool → Type 0
  IsTested n o r = MatchOption o (IsTrue r) (λ t. IsTrue r ↔ IsLower f n t)

  -- the next set takes the place
  pub least_passed : (n : ℕ) (o : Option ℕ) (r : Bool) → r ≡ true → IsTested n o r → P n → IsLeastOf f P n o → IsLeastOf f P (n + 1) (Some n)
  least_passed n None r e test here h = least_new n None here tt h
  least_passed n (Some t) r e test here h = least_new n (Some t) here (test.0 e) h

  -- the least so far stays
  pub least_failed : (n : ℕ) (o : Option ℕ) (r : Bool) → r ≡ false → IsTested n o r → IsLeastOf f P n o → IsLeastOf f P (n + 1) o
  least_failed n None r e test h = absurd (both_ways r e test)
  least_failed n (Some t) r e test h = least_kept n t (λ low. both_ways r e (test.1 low)) h
