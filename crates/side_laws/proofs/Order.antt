-- The order of sets by size and number, and what the sets of one side that hold one cell say of it.
use Rattle.std.proofs.Common.{◌≡◌, ℕ, ◌-◌, ◌<◌, ◌≤◌, ◌⊎◌, ◌↔◌, ◌∙◌, List, [], ◌∷◌, true, false, not, ◌&&◌, length, get_or, refl, sym, ap, subst, inl, inr, arith, All}
use Rattle.std.specs.List.{IsDistinct}
use Rattle.std.proofs.lemmas.Bool.{both_ways, or_left, and_from, false_from_ne_true, cases_Bool, cases_order, not_from_false}
use Rattle.std.proofs.lemmas.List.Sums.{count_by-le-length}
use Rattle.std.proofs.lemmas.List.Folds.{list_any_at}
use Rattle.definitions.specs.declared.Cell.{Cell}
use Rattle.definitions.specs.Sets.{SetValue, FamilyValue, same_cell, holds, overlaps, is_subset, crosses, IsQuotaSet, IsSet, set_cells, set_size, set_side, IsBihierarchy}
use Rattle.definitions.specs.Hierarchies.{IsLower, IsAbove, IsHolder}
use Rattle.definitions.proofs.Members.{cell_test, rising_distinct, member_place, all_members, no_larger_holds, common_turned, every_by_count}
use Rattle.definitions.proofs.Families.{is_lower, lower_true, cells_of_set, side_of_bihierarchy}

rank_self : (a s : ℕ) → (a < a) ⊎ ((a ≡ a) × (s < s)) → ⊥
rank_self a s (inl l) = absurd (omega (arith, l))
rank_self a s (inr r) = absurd (omega (arith, r.1))

rank_cases : (a b s t : ℕ) → ((s ≡ t) ⊎ ((a < b) ⊎ ((a ≡ b) × (s < t)))) ⊎ ((b < a) ⊎ ((b ≡ a) × (t < s)))
rank_cases a b s t = elim (cases_order a b) [
  | inl same ↦ elim (cases_order s t) [
    | inl one ↦ inl (inl one)
    | inr (inl l) ↦ inl (inr (inr (same, l)))
    | inr (inr l) ↦ inr (inr (sym same, l))
  ]
  | inr (inl l) ↦ inl (inr (inl l))
  | inr (inr l) ↦ inr (inl l)
]

-- no number is lower than itself
pub lower_self : (f : FamilyValue) (s : ℕ) → is_lower f s s ≡ false
lower_self f s = false_from_ne_true (is_lower f s s) (λ h. rank_self (set_size f s) s (lower_true f s s h))

-- of two numbers one is lower, or they are one
pub lower_cases : (f : FamilyValue) (s t : ℕ) → ((s ≡ t) ⊎ IsLower f s t) ⊎ IsLower f t s
lower_cases f s t = rank_cases (set_size f s) (set_size f t) s t

-- the cells of a set of a lawful family have no repeats
pub set_distinct : (f : FamilyValue) → All IsQuotaSet f.sets → (s : ℕ) → IsSet f s → IsDistinct same_cell (set_cells f s)
set_distinct f lawful s known =
    let d : SetValue = record { side = 1; floor = 0; ceiling = 0; cells = [] } in
    let inside : s - 1 < length f.sets = (let low = known.0 in let high = known.1 in omega arith) in
    subst (IsDistinct same_cell) (sym (cells_of_set f s known d)) (rising_distinct (get_or f.sets (s - 1) d).cells (lawful (s - 1) d inside).rise)

-- a list within another without repeats is no longer
contained_length : (a b : List Cell) → IsDistinct same_cell a → IsDistinct same_cell b → is_subset a b ≡ true → length a ≤ length b
contained_length a b da db sub =
    omega (arith, every_by_count (holds b) a sub, common_turned same_cell cell_test a b da db, count_by-le-length (holds a) b)

-- two lists that share a cell overlap
share_overlaps : (a b : List Cell) (c : Cell) → holds a c ≡ true → holds b c ≡ true → overlaps a b ≡ true
share_overlaps a b c ha hb =
    let (i, l, e) = member_place same_cell cell_test c a ha in
    list_any_at (holds b) a i c l (ap (holds b) (e c) ∙ hb)

-- a list that has a member isn't empty
pub holds_some : (cells : List Cell) (c : Cell) → holds cells c ≡ true → 0 < length cells
holds_some [] c h = absurd (both_ways false refl h)
holds_some (d ∷ cells) c h = omega arith

-- and one that isn't empty has a member
pub some_held : (cells : List Cell) → 0 < length cells → (c : Cell) × (holds cells c ≡ true)
some_held [] l = absurd (omega arith)
some_held (c ∷ cells) l = (c, or_left (same_cell c c) (holds cells c) (cell_test.self c))

-- of two lists that share a cell and don't cross, the first lies within the second if it is no longer
nested_lists : (a b : List Cell) (c : Cell) → IsDistinct same_cell a → IsDistinct same_cell b → holds a c ≡ true → holds b c ≡ true
    → (crosses a b ≡ true → ⊥) → length a ≤ length b → is_subset a b ≡ true
nested_lists a b c da db ha hb apart l = elim (cases_Bool (is_subset a b)) [
  | inl within ↦ within
  | inr beyond ↦ elim (cases_Bool (is_subset b a)) [
    | inl back ↦ no_larger_holds same_cell cell_test b a db da back l
    | inr beside ↦ absurd (apart (and_from (overlaps a b) (not (is_subset a b) && not (is_subset b a)) (share_overlaps a b c ha hb)
        (and_from (not (is_subset a b)) (not (is_subset b a)) (not_from_false (is_subset a b) beyond) (not_from_false (is_subset b a) beside))))
  ]
]

rank_length : (a b s t : ℕ) → (a < b) ⊎ ((a ≡ b) × (s < t)) → a ≤ b
rank_length a b s t (inl l) = omega (arith, l)
rank_length a b s t (inr l) = omega (arith, l.0)

module _ (f : FamilyValue) (lawful : All IsQuotaSet f.sets) where
  -- what is above a set comes after it
  pub above_lower : (s t : ℕ) → IsSet f s → IsAbove f s t → IsLower f s t
  above_lower s t known above = elim above.beyond [
    | inl l ↦ inl l
    | inr equal ↦
        let ds = set_distinct f lawful s known in
        let dt = set_distinct f lawful t above.known in
        let up = contained_length (set_cells f s) (set_cells f t) ds dt above.contains in
        let down = contained_length (set_cells f t) (set_cells f s) dt ds equal.0 in
        inr (omega (arith, up, down), equal.1)
  ]

  -- a set of the same side that contains a set and comes after it is above it
  pub lower_above : (s t : ℕ) → IsSet f s → IsSet f t → set_side f s ≡ set_side f t → is_subset (set_cells f s) (set_cells f t) ≡ true → IsLower f s t → IsAbove f s t
  lower_above s t known knows sides contains lower = record {
    known = knows;
    sides = sides;
    contains = contains;
    beyond = elim lower [
      | inl l ↦ inl l
      | inr equal ↦ inr (
        no_larger_holds same_cell cell_test (set_cells f s) (set_cells f t) (set_distinct f lawful s known) (set_distinct f lawful t knows) contains (let same = equal.0 in omega arith),
        equal.1,
      )
    ];
  }

  -- of two sets of one side that hold one cell, the one that comes first lies within the other
  pub nested_at_cell : IsBihierarchy f → (side : ℕ) (c : Cell) (s t : ℕ) → IsHolder f side c s → IsHolder f side c t → IsLower f s t → is_subset (set_cells f s) (set_cells f t) ≡ true
  nested_at_cell both side c s t hs ht lower =
      nested_lists (set_cells f s) (set_cells f t) c (set_distinct f lawful s hs.0) (set_distinct f lawful t ht.0) hs.2 ht.2
      (side_of_bihierarchy f side lawful both s t hs.0 ht.0 hs.1 ht.1)
      (rank_length (set_size f s) (set_size f t) s t lower)

  -- the sets above a set that holds a cell are the holders of its side that come after it
  pub above_at_cell : IsBihierarchy f → (side : ℕ) (c : Cell) (s : ℕ) → IsHolder f side c s → (t : ℕ) → IsAbove f s t ↔ (IsHolder f side c t × IsLower f s t)
  above_at_cell both side c s hs t = (
    λ above. ((above.known, sym above.sides ∙ hs.1, all_members same_cell cell_test (holds (set_cells f t)) (set_cells f s) above.contains c hs.2), above_lower s t hs.0 above),
    λ h. lower_above s t hs.0 h.0.0 (hs.1 ∙ sym h.0.1) (nested_at_cell both side c s t hs h.0 h.1) h.1,
  )
