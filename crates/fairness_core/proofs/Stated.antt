-- The stated sets by the numbers of the family.
use Rattle.std.proofs.Common.{◌≡◌, ℕ, ◌+◌, ◌-◌, ◌<◌, ◌∙◌, get_or, Some, ap, sym, arith}
use Rattle.std.specs.Prelude.{slice_get}
use Rattle.std.proofs.lemmas.List.{get_or-take}
use Rattle.std.proofs.lemmas.Option.{get_or_from_slice_get}
use Rattle.definitions.specs.Sets.{SetValue, IsSet}
use Rattle.definitions.specs.Values.{ProblemValue, IsProblem, stated_sets}
use Rattle.definitions.proofs.Families.{sets_of_problem}

-- a stated set has a number
pub stated_known : (p : ProblemValue) (k : ℕ) → IsProblem p → k < p.stated → IsSet p.family (k + 1)
stated_known p k h l = let all = sets_of_problem p h in (omega arith, omega (arith, all))

-- and the set of that number is it
pub stated_found : (p : ProblemValue) (k : ℕ) (s d : SetValue) → k < p.stated → slice_get p.family.sets (k + 1 - 1) ≡ Some s → get_or (stated_sets p) k d ≡ s
stated_found p k s d l e =
    let at : k + 1 - 1 ≡ k = omega arith in
    get_or-take p.stated p.family.sets k d l ∙ get_or_from_slice_get p.family.sets k s d (ap (slice_get p.family.sets) (sym at) ∙ e)
