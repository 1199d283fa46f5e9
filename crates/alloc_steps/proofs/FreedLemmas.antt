-- A family with other sides: shares meet its quotas, or break them first at a set, as they did.
use Rattle.std.proofs.Common.{◌≡◌, ◌-◌, ◌*◌, ◌<◌, ◌⊎◌, ℕ, zero, suc, List, [], ◌∷◌, Some, ap, arith, get_or, length, map, refl, subst, sym}
use Rattle.std.specs.Prelude.{slice_get}
use Rattle.std.specs.List.{zip}
use Rattle.definitions.specs.Sets.{FamilyValue, ScaledValue, SetValue, IsFeasible, IsFirstInfeasible, IsSetFeasible, set_sum, units_of}
use Rattle.side_finder.specs.Applied.{set_with_side, with_sides}

-- the sets of a family with these sides
abbrev moved : List SetValue → List ℕ → List SetValue
moved sets sides = map (λ p. set_with_side p.0 p.1) (zip sets sides)

-- a set of the family, moved to its side
moved_at : (sets : List SetValue) (ns : List ℕ) (k : ℕ) (s : SetValue) → length ns ≡ length sets → slice_get sets k ≡ Some s
    → (side : ℕ) × (slice_get (moved sets ns) k ≡ Some (set_with_side s side))
moved_at [] ns k s e found = absurd (cc found)
moved_at (t ∷ sets) [] k s e found = absurd (omega (arith, e))
moved_at (t ∷ sets) (n ∷ ns) zero s e found = (n, ap (λ (u : SetValue). Some (set_with_side u n)) (let same : t ≡ s = cc found in same))
moved_at (t ∷ sets) (n ∷ ns) (suc k) s e found = moved_at sets ns k s (omega (arith, e)) found

-- a moved set, and the set of the family that it was
stated_at : (sets : List SetValue) (ns : List ℕ) (k : ℕ) (t : SetValue) → length ns ≡ length sets → slice_get (moved sets ns) k ≡ Some t
    → (s : SetValue) × (side : ℕ) × (slice_get sets k ≡ Some s) × (t ≡ set_with_side s side)
stated_at [] ns k t e found = absurd (cc found)
stated_at (s ∷ sets) [] k t e found = absurd (omega (arith, e))
stated_at (s ∷ sets) (n ∷ ns) zero t e found = (s, n, refl, (let same : set_with_side s n ≡ t = cc found in sym same))
stated_at (s ∷ sets) (n ∷ ns) (suc k) t e found = stated_at sets ns k t (omega (arith, e)) found

-- the same by a default
kept_or : (sets : List SetValue) (ns : List ℕ) (k : ℕ) (d : SetValue) → length ns ≡ length sets → k < length sets
    → (side : ℕ) × (k < length (moved sets ns)) × (get_or (moved sets ns) k d ≡ set_with_side (get_or sets k d) side)
kept_or [] ns k d e within = absurd (omega (arith, within))
kept_or (s ∷ sets) [] k d e within = absurd (omega (arith, e))
kept_or (s ∷ sets) (n ∷ ns) zero d e within = (n, omega arith, refl)
kept_or (s ∷ sets) (n ∷ ns) (suc k) d e within =
    let rest = kept_or sets ns k d (omega (arith, e)) (omega (arith, within)) in
    let inside : k < length (moved sets ns) = rest.1 in
    (rest.0, omega (arith, inside), rest.2)

module _ (f : FamilyValue) (x : ScaledValue) (sides : List ℕ) (many : length sides ≡ length f.sets) where
  -- shares that meet the quotas under other sides meet them
  pub feasible_kept : IsFeasible (with_sides f sides) x → IsFeasible f x
  feasible_kept feasible k d within =
      let at = kept_or f.sets sides k d many within in
      subst (IsSetFeasible x) at.2 (feasible k d at.1)

  -- and where they break those of a set first, that set is the first under the stated sides
  pub infeasible_kept : (number total : ℕ) → IsFirstInfeasible (with_sides f sides) x number total → IsFirstInfeasible f x number total
  infeasible_kept number total first =
      let at = stated_at f.sets sides (number - 1) first.failing many first.found in
      record {
        known = first.known;
        failing = at.0;
        found = at.2;
        is_sum = subst (λ (t : SetValue). total ≡ set_sum (units_of x) t.cells) at.3 first.is_sum;
        breaks = subst (λ (t : SetValue). (total < t.floor * x.denominator) ⊎ (t.ceiling * x.denominator < total)) at.3 first.breaks;
        before = λ k s earlier found.
            let there = moved_at f.sets sides k s many found in
            first.before k (set_with_side s there.0) earlier there.1;
      }
