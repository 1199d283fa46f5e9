-- Whether a matrix meets the quotas of a family.
use Rattle.std.specs.Prelude.{Result, Ok, Err}
use Rattle.definitions.specs.declared.Infeasible.{Infeasible}
use Rattle.definitions.specs.Sets.{FamilyValue, ScaledValue, IsFeasible, IsFirstInfeasible}

-- a matrix meets the quotas of each set, or this is the first set whose quotas it breaks
abbrev pub MeetsOrNot : FamilyValue → ScaledValue → Result (Unit {0}) Infeasible → Type 0
MeetsOrNot f x (Ok _) = IsFeasible f x
MeetsOrNot f x (Err first) = IsFirstInfeasible f x first.set first.sum
