-- The sets of a lawful family by their numbers.
use Rattle.std.proofs.Common.{◌≡◌, ℕ, ◌-◌, ◌<◌, ◌∙◌, List, sym, subst, inl, inr, arith}
use Rattle.std.specs.Prelude.{IsTrue}
use Rattle.std.specs.List.{IsDistinct}
use Rattle.std.proofs.lemmas.Bool.{cases_lt}
use Rattle.definitions.specs.declared.Cell.{Cell}
use Rattle.definitions.specs.Sets.{FamilyValue, IsFamily, IsSet, IsRising, IsBihierarchy, NoCrossing, cells_of, sides_of, set_cells, crosses, same_cell}
use Rattle.definitions.proofs.Members.{crosses_turned, crosses_self, rising_distinct}
use Rattle.definitions.proofs.Families.{no_set, cells_of_set, set_of_number, bihierarchy_of_apart}
use Rattle.bihierarchy.specs.Crossing.{CrossOnOneSide}

-- the cells of a set rise
pub rising_cells : (f : FamilyValue) (s : ℕ) → IsFamily f → IsSet f s → IsRising (set_cells f s)
rising_cells f s lawful known =
    subst (λ (cells : List Cell). IsRising cells) (sym (cells_of_set f s known no_set))
    (lawful.lawful (s - 1) no_set (omega (arith, known.0, known.1))).rise

-- where no pair with the lower number first crosses, none does
none_apart : (f : FamilyValue) → IsFamily f → ((s t : ℕ) → IsSet f s → IsSet f t → s < t → CrossOnOneSide f s t → ⊥) → NoCrossing (cells_of f) (sides_of f)
none_apart f lawful none s t one two same cross =
    let known = set_of_number f s one in
    let knows = set_of_number f t two in
    elim (cases_lt s t) [
      | inl before ↦ none s t known knows before (same, cross)
      | inr from ↦ elim (cases_lt t s) [
        | inl after ↦ none t s knows known after (sym same, crosses_turned (set_cells f t) (set_cells f s) (distinct t knows) (distinct s known) ∙ cross)
        | inr upto ↦ itself (omega (arith, from, upto)) cross
      ]
    ]
  where
    distinct : (u : ℕ) → IsSet f u → IsDistinct same_cell (set_cells f u)
    distinct u known = rising_distinct (set_cells f u) (rising_cells f u lawful known)

    itself : s ≡ t → IsTrue (crosses (set_cells f s) (set_cells f t)) → ⊥
    itself e cross = let alone = crosses_self (set_cells f s) in let turned = subst (λ (u : ℕ). IsTrue (crosses (set_cells f s) (set_cells f u))) (sym e) cross in cc (alone, turned)

-- and the family is a bihierarchy
pub none_cross : (f : FamilyValue) → IsFamily f → ((s t : ℕ) → IsSet f s → IsSet f t → s < t → CrossOnOneSide f s t → ⊥) → IsBihierarchy f
none_cross f lawful none = bihierarchy_of_apart f (none_apart f lawful none)
