-- A set is above another where they share as many cells as the lower has, and it comes after by size and number.
use Rattle.std.proofs.Common.{◌≡◌, ℕ, ◌∙◌, List, true, length, sym, ap, inl, inr, arith}
use Rattle.definitions.specs.declared.Cell.{Cell}
use Rattle.definitions.specs.Sets.{FamilyValue, IsSet, IsRising, holds, is_subset, same_cell, set_cells, set_side, set_size}
use Rattle.definitions.specs.Hierarchies.{IsLower, IsAbove}
use Rattle.definitions.proofs.Members.{cell_test, rising_distinct, every_by_count, every_from_count, no_larger_holds}
use Rattle.bihierarchy.proofs.Merges.{shared, turned}

module _ (f : FamilyValue) (s t : ℕ) (rs : IsRising (set_cells f s)) (rt : IsRising (set_cells f t)) where
  pub above_from_count : IsSet f t → set_side f s ≡ set_side f t → IsLower f s t → shared (set_cells f s) (set_cells f t) ≡ set_size f s → IsAbove f s t
  above_from_count known sides lower count =
      let contains : is_subset (set_cells f s) (set_cells f t) ≡ true = every_from_count (holds (set_cells f t)) (set_cells f s) (omega (arith, count)) in
      record {
        known = known;
        sides = sides;
        contains = contains;
        beyond = elim lower [
          | inl less ↦ inl less
          | inr same ↦ inr (no_larger_holds same_cell cell_test (set_cells f s) (set_cells f t) (rising_distinct (set_cells f s) rs) (rising_distinct (set_cells f t) rt) contains (omega (arith, same.0)), same.1)
        ];
      }

  pub count_from_above : IsAbove f s t → shared (set_cells f s) (set_cells f t) ≡ set_size f s
  count_from_above h = every_by_count (holds (set_cells f t)) (set_cells f s) h.contains

  pub lower_from_above : IsAbove f s t → IsLower f s t
  lower_from_above h = elim h.beyond [
    | inl less ↦ inl less
    | inr both ↦
        let back = every_by_count (holds (set_cells f s)) (set_cells f t) both.0 in
        let same = turned (set_cells f s) (set_cells f t) rs rt in
        let there = count_from_above h in
        inr (omega (arith, back, same, there), both.1)
  ]

-- a count over equal lists
pub count_at : (a x b y : List Cell) (n : ℕ) → a ≡ x → b ≡ y → n ≡ shared a b → n ≡ length a → shared x y ≡ length x
count_at a x b y n first second h k = sym (ap (λ (xs : List Cell). shared xs y) first) ∙ sym (ap (λ (ys : List Cell). shared a ys) second) ∙ sym h ∙ k ∙ ap (λ (xs : List Cell). length xs) first

pub count_back : (a x b y : List Cell) (n : ℕ) → a ≡ x → b ≡ y → n ≡ shared a b → shared x y ≡ length x → n ≡ length a
count_back a x b y n first second h k = h ∙ ap (λ (ys : List Cell). shared a ys) second ∙ ap (λ (xs : List Cell). shared xs y) first ∙ k ∙ sym (ap (λ (xs : List Cell). length xs) first)
