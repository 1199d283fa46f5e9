-- A family of known sides has one least pair of sets that cross, or it has trees.
use Rattle.std.proofs.Common.{◌≡◌, ◌⊎◌, ◌-◌, ◌<◌, ◌≤◌, ◌∙◌, ℕ, All, Result, Ok, Err, ap, arith, get_or, inl, inr, sym}
use Rattle.alloc_input.proofs.KnownSides.{IsKnownSide}
use Rattle.alloc_outcomes.specs.Answers.{Answer, refuse, Follows, Gives, RefusesAlone}
use Rattle.alloc_outcomes.specs.Causes.{trees_cause}
use Rattle.alloc_outcomes.specs.declared.cause.Cause.{Cause}
use Rattle.alloc_outcomes.specs.declared.cause.Cause.TheVariants as causes
use Rattle.alloc_readings.specs.Trees.{CrossesOrTrees}
use Rattle.bihierarchy.specs.Crossing.{IsLeastCrossing}
use Rattle.bihierarchy.specs.declared.trees.TreesFault.{TreesFault}
use Rattle.bihierarchy.specs.declared.trees.TreesFault.TheVariants as trees
use Rattle.definitions.specs.Sets.{FamilyValue, IsBihierarchy, IsSet, set_side}
use Rattle.definitions.specs.Trees.{TreesValue}
use Rattle.definitions.proofs.Families.{no_set, side_of_set}

-- the numbers of a least pair are sets
first_set : (f : FamilyValue) (first second : ℕ) → IsLeastCrossing f first second → IsSet f first
first_set f first second h = (h.known, omega (arith, h.order, h.within))

second_set : (f : FamilyValue) (first second : ℕ) → IsLeastCrossing f first second → IsSet f second
second_set f first second h = (omega (arith, h.known, h.order), h.within)

-- of two pairs that come not after one another each is the other
same_pair : (a b c d : ℕ) → (a < c) ⊎ ((a ≡ c) × (b ≤ d)) → (c < a) ⊎ ((c ≡ a) × (d ≤ b)) → (a ≡ c) × (b ≡ d)
same_pair a b c d h k = grind (arith, h, k)

-- the least pair is one
one_crossing : (f : FamilyValue) (a b c d : ℕ) → IsLeastCrossing f a b → IsLeastCrossing f c d → (a ≡ c) × (b ≡ d)
one_crossing f a b c d h k =
    same_pair a b c d
    (h.least c d (first_set f c d k) (second_set f c d k) k.order (k.sides, k.cross))
    (k.least a b (first_set f a b h) (second_set f a b h) h.order (h.sides, h.cross))

module _ (f : FamilyValue) (known : All IsKnownSide f.sets) where
  -- where both sides are hierarchies there is no least pair that crosses
  pub apart_has_no_pair : (first second : ℕ) → IsBihierarchy f → IsLeastCrossing f first second → ⊥
  apart_has_no_pair first second both h =
      let at : set_side f first ≡ (get_or f.sets (first - 1) no_set).side = side_of_set f first (first_set f first second h) no_set in
      elim (known (first - 1) no_set (omega (arith, h.known, h.order, h.within))) [
        | inl one ↦ both.0 first second (first_set f first second h) (second_set f first second h) (at ∙ one) (sym h.sides ∙ at ∙ one) h.cross
        | inr two ↦ both.1 first second (first_set f first second h) (second_set f first second h) (at ∙ two) (sym h.sides ∙ at ∙ two) h.cross
      ]

  -- what follows trees doesn't depend on which they are: a family that refuses has no trees, and one least pair
  crosses_alone : (rest : TreesValue → Answer → Type 0)
      → ((t u : TreesValue) (due : Cause) (answer : Answer) → rest t (refuse due) → rest u answer → answer ≡ refuse due)
      → (due : Cause) (answer : Answer) (found other : Result TreesValue TreesFault)
      → CrossesOrTrees f found → Follows trees_cause rest found (refuse due)
      → CrossesOrTrees f other → Follows trees_cause rest other answer
      → answer ≡ refuse due
  crosses_alone rest alone due answer (Ok t) (Ok u) h e k d = alone t u due answer e d
  crosses_alone rest alone due answer (Ok t) (Err (trees.Crossing a b)) h e k d = absurd (apart_has_no_pair a b h.apart k)
  crosses_alone rest alone due answer (Err (trees.Crossing a b)) (Ok t) h e k d = absurd (apart_has_no_pair a b k.apart h)
  crosses_alone rest alone due answer (Err (trees.Crossing a b)) (Err (trees.Crossing c d)) h e k is =
      let same = one_crossing f c d a b k h in
      is ∙ ap (λ (s : ℕ). refuse (causes.Crossing s d)) same.0 ∙ ap (λ (s : ℕ). refuse (causes.Crossing a s)) same.1 ∙ sym e
  crosses_alone rest alone due answer (Err trees.NoMemory) other h e k d = absurd h
  crosses_alone rest alone due answer found (Err trees.NoMemory) h e k d = absurd k

  pub trees_alone : (rest : TreesValue → Answer → Type 0)
      → ((t u : TreesValue) (due : Cause) (answer : Answer) → rest t (refuse due) → rest u answer → answer ≡ refuse due)
      → RefusesAlone (Gives trees_cause (CrossesOrTrees f) rest)
  trees_alone rest alone due answer h k = crosses_alone rest alone due answer h.found k.found h.holds h.follows k.holds k.follows
