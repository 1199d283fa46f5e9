-- A family under construction grows by a set, or by cells of one set.
use Rattle.std.proofs.Common.{◌≡◌, ◌∙◌, ◌+◌, ◌-◌, ◌<◌, ◌≤◌, ◌++◌, ◌∷◌, [], ℕ, List, Some, None, length, refl, sym, ap, get_or, set, arith, inl, inr, length-append}
use Rattle.std.specs.Prelude.{nat_le, slice_index_or}
use Rattle.std.proofs.lemmas.Bool.{le-leb, lt-leb, cases_lt}
use Rattle.std.proofs.lemmas.List.{map-set, length-map, length-set, set_past, get_or-map, map_push}
use Rattle.std.proofs.lemmas.List.Sums.{sum_by-set, sum_by-append}
use Rattle.std.proofs.lemmas.List.Elements.{All-set, All-push}
use Rattle.definitions.specs.declared.Cell.{Cell}
use Rattle.definitions.specs.Sets.{SetValue, cells_in}
use Rattle.alloc_input.specs.Cells.{with_rectangle}
use Rattle.alloc_input.specs.Checks.{need}
use Rattle.alloc_input.specs.Marked.{marked_cells, IsMarked, IsGrown}
use Rattle.alloc_input.specs.Stated.{with_rectangle_in, empty_set, grown_at}
use Rattle.alloc_input.specs.Quotas.{check_limits}
use Rattle.alloc_input.specs.Reading.{set_value, values, IsOpen, IsCounted}
use Rattle.alloc_input.specs.declared.faults.InputKind.TheVariants as kind
use Rattle.alloc_input.specs.declared.quotas.marks.Marks.{Marks}
use Rattle.alloc_input.specs.declared.quotas.open_sets.OpenSet.{OpenSet}
use Rattle.alloc_input.proofs.CellFacts.{count_is}

-- the limits of few sets are those of their cells
limits_are : (sets : List SetValue) (n a most : ℕ) → length sets ≤ 1000 → n ≡ cells_in sets → (a ≤ most → n ≤ 1000000) → (most < a → 1000000 < n) → need (nat_le a most) kind.OverLimit ≡ check_limits sets
unfolding check_limits
limits_are sets n a most few e fits over = elim (cases_lt most a) [
  | inl l ↦ (let m = over l in rw (le-leb (length sets) 1000 few, lt-leb a most l, ← e, lt-leb n 1000000 m) refl)
  | inr l ↦ (let m = fits l in rw (le-leb (length sets) 1000 few, le-leb a most l, ← e, le-leb n 1000000 m) refl)
]

module _ (sets : List SetValue) (total : ℕ) (counted : total ≡ cells_in sets) (few : total ≤ 1000000) where
  -- the limits with one more set
  pub limits-push : (s : SetValue) → length sets < 1000 → need (nat_le (length s.cells) (1000000 - total)) kind.OverLimit ≡ check_limits (sets ++ s ∷ [])
  limits-push s l =
      let many = sum_by-append (λ (q : SetValue). length q.cells) sets (s ∷ []) in
      limits_are (sets ++ s ∷ []) (total + length s.cells) (length s.cells) (1000000 - total) (omega (arith, length-append sets (s ∷ []))) (sym (many ∙ omega (arith, counted)))
      (λ h. omega arith) (λ h. omega arith)

  -- the limits with more cells in one set
  pub limits-set : (i before : ℕ) (old new : SetValue) → i < length sets → get_or sets i (empty_set 0 0 0) ≡ old → before ≡ length old.cells → length sets ≤ 1000
      → need (nat_le (length new.cells) (1000000 - (total - before))) kind.OverLimit ≡ check_limits (set sets i new)
  limits-set i before old new l here b many =
      let one = rw here at (sum_by-set (λ (q : SetValue). length q.cells) sets i new (empty_set 0 0 0) l) in
      let zero_one = rw here at (sum_by-set (λ (q : SetValue). length q.cells) sets i (empty_set 0 0 0) (empty_set 0 0 0) l) in
      let n : cells_in (set sets i new) + before ≡ total + length new.cells = omega (arith, one, counted, b) in
      let part : before ≤ total = omega (arith, zero_one, counted, b) in
      limits_are (set sets i new) (cells_in (set sets i new)) (length new.cells) (1000000 - (total - before)) (omega (arith, length-set {A = SetValue} sets i new)) refl
      (λ h. omega (arith, n, part)) (λ h. omega (arith, n, part))

pub value_at : (sets : List OpenSet) (i : ℕ) (old : OpenSet) → i < length sets → get_or sets i old ≡ old → get_or (values sets) i (empty_set 0 0 0) ≡ set_value old
value_at sets i old l here = get_or-map set_value sets i old (empty_set 0 0 0) l ∙ ap set_value here

-- a set of cells counts them
pub marks_count : (s : Marks) → IsMarked s → s.count ≡ length (marked_cells s)
marks_count s h = count_is s.agents s.columns s.rows.items s.count h

-- one set is no more than all
pub part_le : (m n : ℕ) (sets : List OpenSet) (total i : ℕ) (old : OpenSet) → IsCounted m n sets total → i < length sets → get_or sets i old ≡ old → old.marks.count ≤ total
part_le m n sets total i old c l here =
    let zero_one = rw (value_at sets i old l here) at (sum_by-set (λ (q : SetValue). length q.cells) (values sets) i (empty_set 0 0 0) (empty_set 0 0 0) (omega (arith, length-map {A = OpenSet} sets set_value))) in
    let open_old : IsOpen m n old = rw here at (c.opened i old l) in
    let many = marks_count old.marks open_old.marked in
    omega (arith, zero_one, many, c.counted)

module _ (m n : ℕ) (sets : List OpenSet) (total i : ℕ) (rows columns : List ℕ) (old : OpenSet) (c : IsCounted m n sets total) (l : i < length sets) (here : get_or sets i old ≡ old) where
  old_open : IsOpen m n old
  old_open = rw here at (c.opened i old l)

  -- the sets with one that has grown
  grown-is : (cells : List Cell) → cells ≡ with_rectangle old.marks.agents old.marks.columns rows columns (marked_cells old.marks)
      → set (values sets) i (record { side = old.side; floor = old.floor; ceiling = old.ceiling; cells = cells }) ≡ grown_at m n (values sets) i rows columns
  unfolding grown_at
  grown-is cells e =
      ap (λ v. set (values sets) i v) (value cells e ∙ ap (with_rectangle_in m n rows columns) (sym (value_at sets i old l here)))
    where
      value : (cells : List Cell) → cells ≡ with_rectangle old.marks.agents old.marks.columns rows columns (marked_cells old.marks)
          → record { side = old.side; floor = old.floor; ceiling = old.ceiling; cells = cells } ≡ with_rectangle_in m n rows columns (set_value old)
      value cells e = rw (e, old_open.agents, old_open.columns) refl

  pub grown-limits : need (nat_le (length (with_rectangle old.marks.agents old.marks.columns rows columns (marked_cells old.marks))) (1000000 - (total - old.marks.count))) kind.OverLimit
      ≡ check_limits (grown_at m n (values sets) i rows columns)
  grown-limits =
      let cells = with_rectangle old.marks.agents old.marks.columns rows columns (marked_cells old.marks) in
      limits-set (values sets) total c.counted c.few i old.marks.count (set_value old) (record { side = old.side; floor = old.floor; ceiling = old.ceiling; cells = cells })
      (omega (arith, length-map {A = OpenSet} sets set_value)) (value_at sets i old l here) (marks_count old.marks old_open.marked) (omega (arith, length-map {A = OpenSet} sets set_value, c.many))
      ∙ ap check_limits (grown-is cells refl)

  module _ (mk : Marks) (e : marked_cells mk ≡ with_rectangle old.marks.agents old.marks.columns rows columns (marked_cells old.marks)) (g : IsGrown old.marks mk) where
    pub grown-values : values (set sets i (record old { marks = mk })) ≡ grown_at m n (values sets) i rows columns
    grown-values = map-set set_value sets i (record old { marks = mk }) ∙ grown-is (marked_cells mk) e

    pub grown-counted : (t : ℕ) → t + old.marks.count ≡ total + mk.count → t ≤ 1000000 → IsCounted m n (set sets i (record old { marks = mk })) t
    grown-counted t k few =
        let new = record old { marks = mk } in
        let one = rw (value_at sets i old l here) at (sum_by-set (λ (q : SetValue). length q.cells) (values sets) i (set_value new) (empty_set 0 0 0) (omega (arith, length-map {A = OpenSet} sets set_value))) in
        let was = marks_count old.marks old_open.marked in
        let is = marks_count mk g.0 in
        record {
          opened = All-set {X = OpenSet} (IsOpen m n) sets i new (record { agents = g.1 ∙ old_open.agents; columns = g.2 ∙ old_open.columns; marked = g.0; quotas = old_open.quotas }) c.opened;
          counted = (let n : t ≡ cells_in (set (values sets) i (set_value new)) = omega (arith, one, was, is, k, c.counted) in n ∙ ap cells_in (sym (map-set set_value sets i new)));
          few = few;
          many = omega (arith, length-set {A = OpenSet} sets i new, c.many);
        }

-- past the sets nothing grows
pub grown-past : (m n : ℕ) (sets : List OpenSet) (total i : ℕ) (rows columns : List ℕ) → IsCounted m n sets total → length sets ≤ i
    → (check_limits (grown_at m n (values sets) i rows columns) ≡ None) × (values sets ≡ grown_at m n (values sets) i rows columns)
unfolding grown_at check_limits
grown-past m n sets total i rows columns c l =
    let past = set_past (values sets) i (with_rectangle_in m n rows columns (slice_index_or (values sets) i (empty_set 0 0 0))) (omega (arith, length-map {A = OpenSet} sets set_value)) in
    let many : length (values sets) ≤ 1000 = omega (arith, length-map {A = OpenSet} sets set_value, c.many) in
    let few : cells_in (values sets) ≤ 1000000 = omega (arith, c.counted, c.few) in
    (ap check_limits past ∙ rw (le-leb (length (values sets)) 1000 many, le-leb (cells_in (values sets)) 1000000 few) refl, sym past)

-- one more set
pub push-counted : (m n : ℕ) (sets sets2 : List OpenSet) (total t : ℕ) (s : OpenSet) → IsCounted m n sets total → IsOpen m n s → sets2 ≡ sets ++ s ∷ [] → length sets < 1000
    → t ≡ total + length (marked_cells s.marks) → t ≤ 1000000 → IsCounted m n sets2 t
push-counted m n sets sets2 total t s c o e l k few = rw e (record {
  opened = All-push (IsOpen m n) sets s c.opened o;
  counted = (let many = sum_by-append (λ (q : SetValue). length q.cells) (values sets) (set_value s ∷ []) in
      let n : t ≡ cells_in (values sets ++ set_value s ∷ []) = sym (many ∙ omega (arith, c.counted, k)) in n ∙ ap cells_in (sym (map_push set_value sets s)));
  few = few;
  many = omega (arith, length-append sets (s ∷ []));
})

-- a set past the thousandth
pub limits-many : (sets : List OpenSet) (s : SetValue) → 1000 ≤ length sets → check_limits (values sets ++ s ∷ []) ≡ Some kind.OverLimit
unfolding check_limits
limits-many sets s l =
    let many : 1000 < length (values sets ++ s ∷ []) = omega (arith, length-append (values sets) (s ∷ []), length-map {A = OpenSet} sets set_value) in
    rw (lt-leb (length (values sets ++ s ∷ [])) 1000 many) refl

module _ (m n : ℕ) (sets : List OpenSet) (total side floor ceiling : ℕ) (rows columns : List ℕ) (mk : Marks)
    (none : marked_cells mk ≡ []) (a : mk.agents ≡ m) (b : mk.columns ≡ n) where
  pushed-cells : with_rectangle mk.agents mk.columns rows columns (marked_cells mk) ≡ with_rectangle m n rows columns []
  pushed-cells =
      ap (λ k. with_rectangle k mk.columns rows columns (marked_cells mk)) a
      ∙ ap (λ k. with_rectangle m k rows columns (marked_cells mk)) b
      ∙ ap (with_rectangle m n rows columns) none

  -- the limits with a new set of the cells of a rectangle
  pub pushed-limits : IsCounted m n sets total → length sets < 1000
      → need (nat_le (length (with_rectangle mk.agents mk.columns rows columns (marked_cells mk))) (1000000 - total)) kind.OverLimit
      ≡ check_limits (values sets ++ with_rectangle_in m n rows columns (empty_set side floor ceiling) ∷ [])
  pushed-limits c l =
      ap (λ cells. need (nat_le (length cells) (1000000 - total)) kind.OverLimit) pushed-cells
      ∙ limits-push (values sets) total c.counted c.few (with_rectangle_in m n rows columns (empty_set side floor ceiling)) (omega (arith, length-map {A = OpenSet} sets set_value))

  -- the sets with it
  pub pushed-values : (new : Marks) (sets2 : List OpenSet) → marked_cells new ≡ with_rectangle mk.agents mk.columns rows columns (marked_cells mk)
      → sets2 ≡ sets ++ (record { side = side; floor = floor; ceiling = ceiling; marks = new }) ∷ []
      → values sets2 ≡ values sets ++ with_rectangle_in m n rows columns (empty_set side floor ceiling) ∷ []
  pushed-values new sets2 e f =
      ap values f ∙ map_push set_value sets (record { side = side; floor = floor; ceiling = ceiling; marks = new })
      ∙ ap (λ cells. values sets ++ (record { side = side; floor = floor; ceiling = ceiling; cells = cells }) ∷ []) (e ∙ pushed-cells)
