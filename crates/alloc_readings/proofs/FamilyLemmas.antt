-- Quotas over the names of shares are one family, of which each set is of side 1 or 2, or they have one first fault.
use Rattle.std.proofs.Common.{◌≡◌, ℕ, All, List, Result, Ok, Err, ap, sym, subst}
use Rattle.alloc_input.specs.declared.faults.InputFault.{InputFault}
use Rattle.alloc_input.proofs.KnownSides.{IsKnownSide, sides-known}
use Rattle.alloc_input.proofs.Once.{quotas-once}
use Rattle.alloc_readings.specs.Family.{QuotasTextReads, over_names}
use Rattle.definitions.specs.Sets.{FamilyValue}
use Rattle.definitions.specs.Values.{SharesValue}

pub one_family : (given : SharesValue) (bytes : List ℕ) (r s : Result FamilyValue InputFault) → QuotasTextReads given bytes r → QuotasTextReads given bytes s → r ≡ s
one_family given bytes (Ok f) (Ok g) h k = ap Ok ((quotas-once (over_names given) bytes).one_value f g h k)
one_family given bytes (Ok f) (Err e) h k = absurd ((quotas-once (over_names given) bytes).never_both f e h k)
one_family given bytes (Err e) (Ok f) h k = absurd ((quotas-once (over_names given) bytes).never_both f e k h)
one_family given bytes (Err d) (Err e) h k = ap Err ((quotas-once (over_names given) bytes).one_fault d e h k)

-- each of its sets is of side 1 or 2
pub family_known : (given : SharesValue) (bytes : List ℕ) (f : FamilyValue) → QuotasTextReads given bytes (Ok f) → All IsKnownSide f.sets
family_known given bytes f h =
    subst (λ (g : FamilyValue). All IsKnownSide g.sets) (sym h.3) (sides-known (over_names given) h.0 h.2)
