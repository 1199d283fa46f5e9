-- The sets of a lawful problem: the stated sets have side 2, and the agents' rows have side 1 and share no cell.
use Rattle.std.proofs.Common.{◌≡◌, ℕ, zero, suc, ◌+◌, ◌-◌, ◌<◌, ◌≤◌, ◌∙◌, List, length, map, take, get_or, true, false, not, ◌&&◌, sym, ap, refl, subst, inl, inr, arith, length-take}
use Rattle.std.specs.Prelude.{nat_eq, ◌==◌}
use Rattle.std.specs.List.{list_any, range_with_len, enumerate_from}
use Rattle.std.specs.Set.{is_member}
use Rattle.std.proofs.lemmas.Bool.{both_ways, or_cases, and_parts, eqb-true, cases_lt}
use Rattle.std.proofs.lemmas.List.{get_or-map, get_or-take, get_or-drop}
use Rattle.std.proofs.lemmas.List.FromFn.{get_or-enumerate_from, length-enumerate_from}
use Rattle.definitions.specs.Sets.{SetValue, cell_of, holds, overlaps, is_subset, crosses, row_cells, IsSet, set_cells, set_side, IsHierarchy, IsBihierarchy}
use Rattle.definitions.specs.Values.{ProblemValue, IsProblem, column_count}
use Rattle.definitions.proofs.Members.{crosses_self}
use Rattle.definitions.proofs.Families.{sets_of_problem, no_set, cells_of_set, side_of_set}
use Rattle.definitions.proofs.Cells.{row_member}

row_overlap : (columns i j s n : ℕ) → list_any (holds (row_cells columns j)) (map (cell_of i) (range_with_len s n)) ≡ true → i ≡ j
row_overlap columns i j s zero h = absurd (both_ways false refl h)
row_overlap columns i j s (suc n) h =
    elim (or_cases (holds (row_cells columns j) (cell_of i s)) (list_any (holds (row_cells columns j)) (map (cell_of i) (range_with_len (s + 1) n))) h) [
      | inl here ↦ eqb-true i j (and_parts (i == j) (is_member nat_eq (range_with_len 0 columns) s) (sym (row_member j (range_with_len 0 columns) (cell_of i s)) ∙ here)).0
      | inr later ↦ row_overlap columns i j (s + 1) n later
    ]

-- rows don't cross
pub rows_apart : (columns i j : ℕ) → crosses (row_cells columns i) (row_cells columns j) ≡ true → ⊥
rows_apart columns i j h =
    let a = row_cells columns i in
    let b = row_cells columns j in
    let same : i ≡ j = row_overlap columns i j 0 columns (and_parts (overlaps a b) (not (is_subset a b) && not (is_subset b a)) h).0 in
    both_ways (crosses b b) (crosses_self b) (subst (λ k. crosses (row_cells columns k) b ≡ true) same h)

module _ (p : ProblemValue) (h : IsProblem p) where
  -- a stated set has side 2
  pub stated_side : (s : ℕ) → IsSet p.family s → s ≤ p.stated → set_side p.family s ≡ 2
  stated_side s known l =
      let low = known.0 in
      let high = known.1 in
      let inside : s - 1 < length (take p.stated p.family.sets) = omega (arith, length-take p.stated p.family.sets) in
      side_of_set p.family s known no_set
      ∙ ap (λ (q : SetValue). q.side) (sym (get_or-take p.stated p.family.sets (s - 1) no_set (omega arith)))
      ∙ (h.stated_lawful (s - 1) no_set inside).side

  -- a later set is an agent's row
  row_at : (s : ℕ) → IsSet p.family s → p.stated < s
      → get_or p.family.sets (s - 1) no_set ≡ (let d = get_or p.demands (s - 1 - p.stated) 0 in record { side = 1; floor = d; ceiling = d; cells = row_cells (column_count p) (s - 1 - p.stated) })
  row_at s known l =
      let high = known.1 in
      let k = s - 1 - p.stated in
      let many = sets_of_problem p h in
      let inside : k < length p.demands = (let same = h.demands_many in omega arith) in
      let place : p.stated + k ≡ s - 1 = omega arith in
      let row : ℕ × ℕ → SetValue = λ w. record { side = 1; floor = w.1; ceiling = w.1; cells = row_cells (column_count p) w.0 } in
      let plain : 0 + k ≡ k = omega arith in
      ap (λ i. get_or p.family.sets i no_set) (sym place)
      ∙ sym (get_or-drop p.stated p.family.sets k no_set)
      ∙ ap (λ (sets : List SetValue). get_or sets k no_set) h.rows
      ∙ get_or-map row (enumerate_from 0 p.demands) k (0, 0) no_set (omega (arith, length-enumerate_from 0 p.demands, inside))
      ∙ ap row (get_or-enumerate_from 0 p.demands k (0, 0) inside)
      ∙ ap (λ n. row (n, get_or p.demands k 0)) plain

  pub row_side : (s : ℕ) → IsSet p.family s → p.stated < s → set_side p.family s ≡ 1
  row_side s known l = side_of_set p.family s known no_set ∙ ap (λ (q : SetValue). q.side) (row_at s known l)

  -- its cells are the row of an agent
  pub row_set_cells : (s : ℕ) → IsSet p.family s → p.stated < s → set_cells p.family s ≡ row_cells (column_count p) (s - 1 - p.stated)
  row_set_cells s known l = cells_of_set p.family s known no_set ∙ ap (λ (q : SetValue). q.cells) (row_at s known l)

  -- a set of side 1 is no stated set
  pub one_is_row : (s : ℕ) → IsSet p.family s → set_side p.family s ≡ 1 → p.stated < s
  one_is_row s known e = elim (cases_lt p.stated s) [
    | inl l ↦ l
    | inr l ↦ (let two = stated_side s known l in absurd (omega (arith, e, two)))
  ]

  -- a set of side 2 is a stated set
  pub two_is_stated : (s : ℕ) → IsSet p.family s → set_side p.family s ≡ 2 → s ≤ p.stated
  two_is_stated s known e = elim (cases_lt p.stated s) [
    | inl l ↦ (let one = row_side s known l in absurd (omega (arith, e, one)))
    | inr l ↦ l
  ]

  -- side 1 of a lawful problem is a hierarchy
  pub rows_are_hierarchy : IsHierarchy p.family 1
  rows_are_hierarchy s t known knows first second cross =
      rows_apart (column_count p) (s - 1 - p.stated) (t - 1 - p.stated)
      (subst (λ a. crosses a (row_cells (column_count p) (t - 1 - p.stated)) ≡ true) (row_set_cells s known (one_is_row s known first))
      (subst (λ b. crosses (set_cells p.family s) b ≡ true) (row_set_cells t knows (one_is_row t knows second)) cross))

  -- so the family is a bihierarchy where no two stated sets cross
  pub stated_are_enough : IsHierarchy p.family 2 → IsBihierarchy p.family
  stated_are_enough stated = (rows_are_hierarchy, stated)
