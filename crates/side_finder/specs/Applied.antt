-- A family with other sides.
use Rattle.std.specs.Prelude.{ℕ, List, map}
use Rattle.std.specs.List.{zip}
use Rattle.definitions.specs.Sets.{FamilyValue, SetValue}

-- the set with this side
abbrev pub set_with_side : SetValue → ℕ → SetValue
set_with_side s side = record s { side = side }

-- the family with these sides, one for each set in order
abbrev pub with_sides : FamilyValue → List ℕ → FamilyValue
with_sides f sides = record f { sets = map (λ p. set_with_side p.0 p.1) (zip f.sets sides) }
