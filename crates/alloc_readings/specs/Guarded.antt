-- The guarded family of a problem and shares.
use Rattle.std.specs.Prelude.{◌≡◌, Result, Ok, Err}
use Rattle.alloc_outcomes.specs.declared.cause.Cause.{Cause}
use Rattle.alloc_outcomes.specs.declared.cause.Cause.TheVariants as causes
use Rattle.definitions.specs.Fairness.{guarded_family}
use Rattle.definitions.specs.Sets.{FamilyValue, IsFamily, ScaledValue}
use Rattle.definitions.specs.Values.{ProblemValue}
use Rattle.guard_sets.specs.Guard.{FitsGuard, IsOverGuard}
use Rattle.guard_sets.specs.declared.fault.GuardFault.{GuardFault}
use Rattle.guard_sets.specs.declared.fault.GuardFault.TheVariants as guard

-- the cause of its fault
abbrev pub guard_cause : GuardFault → Cause
guard_cause (guard.OverGuard sets cells) = causes.OverGuard sets cells
guard_cause guard.NoMemory = causes.NoMemory

-- this is the guarded family, and it is within the limits of a family
pub record IsGuardedFamily (p : ProblemValue) (x : ScaledValue) (f : FamilyValue) : Type 0 where
  pub is : f ≡ guarded_family p x
  pub fits : FitsGuard p x
  pub lawful : IsFamily f

-- this is the guarded family of a problem and shares, or so many sets and cells it would have, of
-- which one is too many
abbrev pub GuardsOrNot : ProblemValue → ScaledValue → Result FamilyValue GuardFault → Type 0
GuardsOrNot p x (Ok f) = IsGuardedFamily p x f
GuardsOrNot p x (Err (guard.OverGuard sets cells)) = IsOverGuard p x sets cells
GuardsOrNot p x (Err guard.NoMemory) = ⊥
