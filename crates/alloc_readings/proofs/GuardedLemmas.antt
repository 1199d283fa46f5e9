-- The guarded family is one, or it is too large in one way.
use Rattle.std.proofs.Common.{◌≡◌, ◌∙◌, ◌<◌, ◌⊎◌, ℕ, Result, Ok, Err, ap, arith, inl, inr, sym}
use Rattle.alloc_readings.specs.Guarded.{GuardsOrNot}
use Rattle.definitions.specs.Sets.{FamilyValue, ScaledValue}
use Rattle.definitions.specs.Values.{ProblemValue}
use Rattle.guard_sets.specs.Guard.{FitsGuard, IsOverGuard}
use Rattle.guard_sets.specs.declared.fault.GuardFault.{GuardFault}
use Rattle.guard_sets.specs.declared.fault.GuardFault.TheVariants as guard

module _ (p : ProblemValue) (x : ScaledValue) where
  -- a family within the limits passes none
  fits_or_over : (sets cells : ℕ) → FitsGuard p x → IsOverGuard p x sets cells → ⊥
  fits_or_over sets cells fits over = by over.over
    where
      by : (2000 < sets) ⊎ (1201000 < cells) → ⊥
      by (inl many) = omega (arith, many, over.sets_are, fits.sets)
      by (inr many) = omega (arith, many, over.cells_are, fits.cells)

  pub one_guard : (r s : Result FamilyValue GuardFault) → GuardsOrNot p x r → GuardsOrNot p x s → r ≡ s
  one_guard (Ok f) (Ok g) h k = ap Ok (h.is ∙ sym k.is)
  one_guard (Ok f) (Err (guard.OverGuard sets cells)) h k = absurd (fits_or_over sets cells h.fits k)
  one_guard (Ok f) (Err guard.NoMemory) h k = absurd k
  one_guard (Err (guard.OverGuard sets cells)) (Ok g) h k = absurd (fits_or_over sets cells k.fits h)
  one_guard (Err (guard.OverGuard a b)) (Err (guard.OverGuard c d)) h k =
      ap (λ n. Err (guard.OverGuard n b)) (h.sets_are ∙ sym k.sets_are) ∙ ap (λ n. Err (guard.OverGuard c n)) (h.cells_are ∙ sym k.cells_are)
  one_guard (Err (guard.OverGuard sets cells)) (Err guard.NoMemory) h k = absurd k
  one_guard (Err guard.NoMemory) s h k = absurd h
