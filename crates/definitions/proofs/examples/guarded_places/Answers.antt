-- By computing: the first set of the family has side 2, and the first added set has the floor 0.
use Rattle.std.proofs.Common.{refl, ap, get_or}
use Rattle.definitions.specs.Sets.{FamilyValue}
use Rattle.definitions.proofs.Families.{no_set}
use Rattle.definitions.proofs.examples.guarded_places.Goals as goal

pub returns : goal.returns
returns c = (
  refl,
  λ wrong. cc (ap (λ (f : FamilyValue). (get_or f.sets 0 no_set).side) wrong),
  λ wrong. cc (ap (λ (f : FamilyValue). (get_or f.sets 5 no_set).floor) wrong),
)
