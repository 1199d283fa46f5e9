-- What gives give at a cell, found by the place of the cell.
use Rattle.std.proofs.Common.{◌≡◌, ℕ, ◌+◌, ◌-◌, ◌*◌, ◌<◌, ◌≤◌, ◌^◌, List, [], ◌∷◌, length, get_or, take, drop, ap, sym, refl, ◌∙◌, arith, Bool, true, false, cond, ◌&&◌, ◌||◌, eqb, ltb, inl, inr, All, subst, sum_by, count_by, ◌%◌, Option, Some, None}
use Rattle.std.specs.List.Sorted.{IsPartitionPoint, IsPartitionedBy}
use Rattle.std.proofs.lemmas.Bool.{and_from, and_parts, eq-eqb, eqb-true, ltb-true, lt-ltb, or_cases, or_left, or_right, both_ways, cases_lt, ne_eqb}
use Rattle.std.proofs.lemmas.List.{get_or-take, get_or-drop, length-take, length-drop, length-map, get_or-map, take_all}
use Rattle.std.proofs.lemmas.List.Elements.{All-head, All-tail, All-get_or}
use Rattle.std.proofs.lemmas.List.Sums.{sum_by-take-drop, sum_by-drop_more, sum_by_more, sum_by_more_le, sum_by-le-sum_by, get_or-le-sum_by, count_by_more_yes, count_by_more_no}
use Rattle.std.proofs.lemmas.Nat.{mul-le}
use Rattle.definitions.specs.declared.Cell.{Cell}
use Rattle.definitions.specs.declared.Give.{Give}
use Rattle.definitions.specs.Sets.{cell_of, same_cell, IsBefore, ScaledValue, IsScaledMatrix}
use Rattle.definitions.specs.Values.{PieceValue}
use Rattle.definitions.specs.Pieces.{piece_count, AreGives}
use Rattle.definitions.proofs.Members.{cell_test}
use Rattle.definitions.proofs.Sums.{sum_le_all, sum_scaled}
use Rattle.std.proofs.lemmas.List.Elements.{recursion_from_All}
use Rattle.cert_check.specs.PieceFaults.{ArePiecesFor, AreRising, cells_in_set, given_units, gives_at, no_piece, is_rounded, set_look, weight_at}
use Rattle.cert_check.specs.declared.faults.Fault.{Fault}
use Rattle.cert_check.specs.declared.faults.Fault.TheVariants.{SetNotRounded}
use Rattle.std.specs.Prelude.{slice_get, unwrap_or, not}
use Rattle.std.proofs.lemmas.Option.{unwrap_or-slice_get, get_or_from_slice_get}
use Rattle.definitions.specs.Sets.{units_of, unit_at, set_sum, set_cells, cells_of, cells_in, all_cells, holds, IsRising, IsQuotaSet, IsFamily, FamilyValue, SetValue}
use Rattle.definitions.specs.Rounding.{is_fractional}
use Rattle.definitions.proofs.Members.{rising_distinct}
use Rattle.definitions.proofs.Cells.{cells_distinct, within_is_member}
use Rattle.definitions.proofs.Sums.{restrict, sum_of_units, unit_at_past}
use Rattle.cert_check.specs.PriceFaults.{no_set}
use Rattle.cert_check.proofs.Assigned.{off_rows}
use Rattle.cert_check.proofs.Quiet.{false_by}
use Rattle.cert_check.proofs.Canonical.{give_cell, Rise, before_differs, before_chain, count_cons, rise_head, rise_tail, none_before, IsLawfulGive}

-- the give stands before the cell of agent i and column a
abbrev pub stands_before : ℕ → ℕ → Give → Bool
stands_before i a g = ltb g.agent i || (eqb g.agent i && ltb g.object a)

before_by : (i a : ℕ) (g : Give) → stands_before i a g ≡ true → IsBefore (give_cell g) (cell_of i a)
before_by i a g t = elim (or_cases (ltb g.agent i) (eqb g.agent i && ltb g.object a) t) [
  | inl l ↦ inl (ltb-true g.agent i l)
  | inr r ↦ (let parts = and_parts (eqb g.agent i) (ltb g.object a) r in inr (eqb-true g.agent i parts.0, ltb-true g.object a parts.1))
]

by_before : (i a : ℕ) (g : Give) → IsBefore (give_cell g) (cell_of i a) → stands_before i a g ≡ true
by_before i a g (inl l) = or_left (ltb g.agent i) (eqb g.agent i && ltb g.object a) (lt-ltb g.agent i l)
by_before i a g (inr l) = or_right (ltb g.agent i) (eqb g.agent i && ltb g.object a) (and_from (eqb g.agent i) (ltb g.object a) (eq-eqb g.agent i l.0) (lt-ltb g.object a l.1))

pub partitioned : (i a : ℕ) (gs : List Give) → Rise gs → IsPartitionedBy (stands_before i a) gs
partitioned i a gs r k j d l m t = elim (cases_lt k j) [
  | inl before ↦ by_before i a (get_or gs k d) (before_chain (give_cell (get_or gs k d)) (give_cell (get_or gs j d)) (cell_of i a) (r k j d before m) (before_by i a (get_or gs j d) t))
  | inr from ↦ (let same : k ≡ j = omega arith in ap (λ n. stands_before i a (get_or gs n d)) same ∙ t)
]

-- no give at the cell, no count
count_zero : (c : Cell) (gs : List Give) → All (λ g. same_cell (give_cell g) c ≡ false) gs → piece_count gs c ≡ 0
count_zero c [] h = refl
count_zero c (g ∷ gs) h =
    let off : cond (same_cell (give_cell g) c) g.count 0 ≡ 0 = ap (λ b. cond b g.count 0) (All-head (λ g. same_cell (give_cell g) c ≡ false) g gs h) in
    omega (arith, count_cons g gs c, off, count_zero c gs (All-tail (λ g. same_cell (give_cell g) c ≡ false) g gs h))

module _ (i a : ℕ) (gs : List Give) (n : ℕ) (r : Rise gs)
    (point : IsPartitionPoint (λ g. stands_before i a g ≡ true) (λ g. stands_before i a g ≡ false) gs n) where
  front_none : n ≤ length gs → piece_count (take n gs) (cell_of i a) ≡ 0
  front_none b = count_zero (cell_of i a) (take n gs) (λ k d l.
      let low : k < n = omega (arith, length-take n gs) in
      let before = before_by i a (get_or gs k d) (point.0 k d (omega arith) low) in
      subst (λ (g : Give). same_cell (give_cell g) (cell_of i a) ≡ false) (sym (get_or-take n gs k d low))
      (cell_test.turned (give_cell (get_or gs k d)) (cell_of i a) ∙ before_differs (give_cell (get_or gs k d)) (cell_of i a) before))

  rest_none : n < length gs → piece_count (drop (n + 1) gs) (cell_of i a) ≡ 0
  rest_none b = count_zero (cell_of i a) (drop (n + 1) gs) (λ k d l.
      let inside : n + 1 + k < length gs = omega (arith, length-drop (n + 1) gs) in
      subst (λ (g : Give). same_cell (give_cell g) (cell_of i a) ≡ false) (sym (get_or-drop (n + 1) gs k d))
      (false_by (same_cell (give_cell (get_or gs (n + 1 + k) d)) (cell_of i a)) (λ t.
      let here = cell_test.sound (give_cell (get_or gs (n + 1 + k) d)) (cell_of i a) t in
      let after : IsBefore (give_cell (get_or gs n d)) (give_cell (get_or gs (n + 1 + k) d)) = r n (n + 1 + k) d (omega arith) inside in
      let before : IsBefore (give_cell (get_or gs n d)) (cell_of i a) = subst (λ (c : Cell). IsBefore (give_cell (get_or gs n d)) c) here after in
      both_ways (stands_before i a (get_or gs n d)) (point.1 n d (omega arith) b) (by_before i a (get_or gs n d) before))))

  pub count_here : (d : Give) → n < length gs → piece_count gs (cell_of i a) ≡ cond (same_cell (give_cell (get_or gs n d)) (cell_of i a)) (get_or gs n d).count 0
  count_here d b =
      let f : Give → ℕ = λ g. cond (same_cell (give_cell g) (cell_of i a)) g.count 0 in
      let parts = sum_by-take-drop (λ (g : Give). cond (same_cell (give_cell g) (cell_of i a)) g.count 0) gs n in
      let more = sum_by-drop_more (λ (g : Give). cond (same_cell (give_cell g) (cell_of i a)) g.count 0) gs n d b in
      omega (arith, parts, more, front_none (omega arith), rest_none b)

  pub count_there : (d : Give) → n < length gs → (get_or gs n d).agent ≡ i → (get_or gs n d).object ≡ a → (get_or gs n d).count ≡ piece_count gs (cell_of i a)
  count_there d b e o =
      let same : same_cell (give_cell (get_or gs n d)) (cell_of i a) ≡ true =
      and_from (eqb (get_or gs n d).agent i) (eqb (get_or gs n d).object a) (eq-eqb (get_or gs n d).agent i e) (eq-eqb (get_or gs n d).object a o) in
      sym (count_here d b ∙ ap (λ t. cond t (get_or gs n d).count 0) same)

  pub count_elsewhere : (d : Give) → n < length gs → ((get_or gs n d).agent ≡ i → (get_or gs n d).object ≡ a → ⊥) → 0 ≡ piece_count gs (cell_of i a)
  count_elsewhere d b h =
      let other : same_cell (give_cell (get_or gs n d)) (cell_of i a) ≡ false =
      false_by _ (λ t. let parts = and_parts (eqb (get_or gs n d).agent i) (eqb (get_or gs n d).object a) t in h (eqb-true (get_or gs n d).agent i parts.0) (eqb-true (get_or gs n d).object a parts.1)) in
      sym (count_here d b ∙ ap (λ t. cond t (get_or gs n d).count 0) other)

  pub count_past : n ≤ length gs → length gs ≤ n → 0 ≡ piece_count gs (cell_of i a)
  count_past b p = sym (ap (λ (hs : List Give). piece_count hs (cell_of i a)) (sym (take_all n gs p)) ∙ front_none b)

-- counts are at most 1,000
pub count_small : (agents columns : ℕ) (gs : List Give) (c : Cell) → AreGives agents columns gs → piece_count gs c ≤ 1000
count_small agents columns [] c h = omega arith
count_small agents columns (g ∷ gs) c h =
    by (same_cell (give_cell g) c) refl (count_small agents columns gs c (All-tail (IsLawfulGive agents columns) g gs h.0, rise_tail g gs h.1))
  where
    by : (b : Bool) → same_cell (give_cell g) c ≡ b → piece_count gs c ≤ 1000 → piece_count (g ∷ gs) c ≤ 1000
    by true e less =
        let here : cond (same_cell (give_cell g) c) g.count 0 ≡ g.count = ap (λ t. cond t g.count 0) e in
        let at : give_cell g ≡ c = cell_test.sound (give_cell g) c e in
        let later : All (λ k. IsBefore c (give_cell k)) gs = subst (λ (z : Cell). All (λ k. IsBefore z (give_cell k)) gs) at (rise_head g gs h.1) in
        omega (arith, count_cons g gs c, here, none_before c gs later, (All-head (IsLawfulGive agents columns) g gs h.0).3)
    by false e less =
        let here : cond (same_cell (give_cell g) c) g.count 0 ≡ 0 = ap (λ t. cond t g.count 0) e in
        omega (arith, count_cons g gs c, here)

-- weighted sums so far are at most 1,000 times the denominator
pub given_small : (x : ScaledValue) (ps : List PieceValue) (c : Cell) → ArePiecesFor x ps → given_units ps c ≤ 1000 * x.denominator
given_small x ps c q =
    let each = sum_le_all (λ (p : PieceValue). AreGives x.agents x.columns p.gives) (λ (p : PieceValue). p.weight * piece_count p.gives c) (λ (p : PieceValue). 1000 * p.weight) ps
    (λ p h.
    let less : p.weight * piece_count p.gives c ≤ p.weight * 1000 = mul-le p.weight (piece_count p.gives c) p.weight 1000 (omega arith) (count_small x.agents x.columns p.gives c h) in
    omega (arith, less)) (recursion_from_All (λ (p : PieceValue). AreGives x.agents x.columns p.gives) ps q.gives) in
    let times : sum_by (λ (p : PieceValue). 1000 * p.weight) ps ≡ 1000 * sum_by (λ (p : PieceValue). p.weight) ps = sum_scaled 1000 (λ (p : PieceValue). p.weight) ps in
    omega (arith, each, times, q.adds_up)

pub given_more : (ps : List PieceValue) (k : ℕ) (c : Cell) → k < length ps
    → given_units (take (k + 1) ps) c ≡ given_units (take k ps) c + weight_at ps k * piece_count (gives_at ps k) c
given_more ps k c l = sum_by_more (λ (p : PieceValue). p.weight * piece_count p.gives c) ps k no_piece l

pub given_fits : (x : ScaledValue) (ps : List PieceValue) (k : ℕ) (c : Cell) → IsScaledMatrix x → ArePiecesFor x ps → k < length ps
    → given_units (take k ps) c + weight_at ps k * piece_count (gives_at ps k) c < 2 ^ 128
given_fits x ps k c m q l =
    let part = sum_by_more_le (λ (p : PieceValue). p.weight * piece_count p.gives c) ps k no_piece l in
    omega (arith, part, given_small x ps c q, m.limit)

-- what a piece gives is lawful, and rises
pub lawful_at : (x : ScaledValue) (ps : List PieceValue) (k : ℕ) → ArePiecesFor x ps → k < length ps → AreGives x.agents x.columns (gives_at ps k)
lawful_at x ps k q l = All-get_or (λ (p : PieceValue). AreGives x.agents x.columns p.gives) ps k no_piece l q.gives

pub gives_lawful : (x : ScaledValue) (ps : List PieceValue) (k : ℕ) (gs : List Give) → ArePiecesFor x ps → k < length ps → gs ≡ gives_at ps k → AreGives x.agents x.columns gs
gives_lawful x ps k gs q l e = subst (AreGives x.agents x.columns) (sym e) (lawful_at x ps k q l)

pub gives_rise : (x : ScaledValue) (ps : List PieceValue) (k : ℕ) (gs : List Give) → ArePiecesFor x ps → k < length ps → gs ≡ gives_at ps k → AreRising gs
gives_rise x ps k gs q l e = (gives_lawful x ps k gs q l e).1

-- the cells of the set with the next number
pub set_cells_index : (f : FamilyValue) (k : ℕ) → set_cells f (k + 1) ≡ get_or (cells_of f) k []
set_cells_index f k =
    let at : k + 1 - 1 ≡ k = omega arith in
    ap (λ j. unwrap_or (slice_get (cells_of f) j) []) at ∙ unwrap_or-slice_get (cells_of f) k []

pub set_cells_are : (f : FamilyValue) (k : ℕ) → k < length f.sets → set_cells f (k + 1) ≡ cells_in_set f k
set_cells_are f k l = set_cells_index f k ∙ get_or-map (λ (s : SetValue). s.cells) f.sets k no_set [] l

abbrev is_broken : ScaledValue → List Cell → Bool
is_broken x s = is_fractional x.denominator (set_sum (unit_at x.columns x.units) s)

pub broken_yes : (f : FamilyValue) (x : ScaledValue) (k n r d : ℕ) → k < length f.sets → n ≡ count_by (is_broken x) (take k (cells_of f)) → r ≡ set_sum (units_of x) (set_cells f (k + 1)) → d ≡ x.denominator
    → (r % d ≡ 0 → ⊥) → n + 1 ≡ count_by (is_broken x) (take (k + 1) (cells_of f))
broken_yes f x k n r d l e s t h =
    let sum : r ≡ set_sum (units_of x) (get_or (cells_of f) k []) = s ∙ ap (set_sum (units_of x)) (set_cells_index f k) in
    let rest : r % d ≡ set_sum (units_of x) (get_or (cells_of f) k []) % x.denominator = ap (λ m. m % d) sum ∙ ap (λ m. set_sum (units_of x) (get_or (cells_of f) k []) % m) t in
    let test : is_broken x (get_or (cells_of f) k []) ≡ true = ap not (ne_eqb (set_sum (units_of x) (get_or (cells_of f) k []) % x.denominator) 0 (λ z. h (rest ∙ z))) in
    ap (λ m. m + 1) e ∙ sym (count_by_more_yes (is_broken x) (cells_of f) k [] (omega (arith, length-map {A = SetValue} {B = List Cell} f.sets (λ (s : SetValue). s.cells))) test)

pub broken_no : (f : FamilyValue) (x : ScaledValue) (k n r d : ℕ) → k < length f.sets → n ≡ count_by (is_broken x) (take k (cells_of f)) → r ≡ set_sum (units_of x) (set_cells f (k + 1)) → d ≡ x.denominator
    → r % d ≡ 0 → n ≡ count_by (is_broken x) (take (k + 1) (cells_of f))
broken_no f x k n r d l e s t h =
    let sum : r ≡ set_sum (units_of x) (get_or (cells_of f) k []) = s ∙ ap (set_sum (units_of x)) (set_cells_index f k) in
    let rest : r % d ≡ set_sum (units_of x) (get_or (cells_of f) k []) % x.denominator = ap (λ m. m % d) sum ∙ ap (λ m. set_sum (units_of x) (get_or (cells_of f) k []) % m) t in
    let test : is_broken x (get_or (cells_of f) k []) ≡ false = ap not (eq-eqb (set_sum (units_of x) (get_or (cells_of f) k []) % x.denominator) 0 (sym rest ∙ h)) in
    e ∙ sym (count_by_more_no (is_broken x) (cells_of f) k [] (omega (arith, length-map {A = SetValue} {B = List Cell} f.sets (λ (s : SetValue). s.cells))) test)

-- no sum over rising cells passes that of the matrix
off_cells : (x : ScaledValue) (c : Cell) → IsScaledMatrix x → holds (all_cells x.agents x.columns) c ≡ false → units_of x c ≡ 0
off_cells x c m e = elim (cases_lt c.object x.columns) [
  | inr past ↦ unit_at_past x.columns x.units c past
  | inl within ↦ elim (cases_lt c.agent x.agents) [
    | inl inside ↦ absurd (both_ways (holds (all_cells x.agents x.columns) c) e (within_is_member x.agents x.columns c (inside, within)))
    | inr below ↦ off_rows x c m within below
  ]
]

pub set_small : (x : ScaledValue) (cells : List Cell) → IsScaledMatrix x → IsRising cells → set_sum (units_of x) cells ≤ 1000 * x.denominator
set_small x cells m r =
    let all = all_cells x.agents x.columns in
    let moved : sum_by (units_of x) cells ≡ sum_by (λ q. cond (holds cells q) (units_of x q) 0) (all_cells x.agents x.columns) =
    restrict same_cell cell_test (units_of x) cells (all_cells x.agents x.columns) (rising_distinct cells r) (cells_distinct x.agents x.columns)
    (λ c. off (holds (all_cells x.agents x.columns) c) (units_of x c) (off_cells x c m)) in
    let less : sum_by (λ q. cond (holds cells q) (units_of x q) 0) (all_cells x.agents x.columns) ≤ sum_by (units_of x) (all_cells x.agents x.columns) =
    sum_by-le-sum_by (λ q. cond (holds cells q) (units_of x q) 0) (units_of x) (all_cells x.agents x.columns) (λ q. at_most (holds cells q) (units_of x q)) in
    omega (arith, moved, less, sum_of_units x.agents x.columns x.units m.shape, m.total)
  where
    off : (b : Bool) (n : ℕ) → (b ≡ false → n ≡ 0) → cond b n 0 ≡ n
    off true n h = refl
    off false n h = sym (h refl)

    at_most : (b : Bool) (n : ℕ) → cond b n 0 ≤ n
    at_most true n = omega arith
    at_most false n = omega arith

pub set_rises : (f : FamilyValue) (k : ℕ) → IsFamily f → k < length f.sets → IsRising (cells_in_set f k)
set_rises f k h l = (All-get_or IsQuotaSet f.sets k no_set l h.lawful).rise

pub set_few : (f : FamilyValue) (k : ℕ) → IsFamily f → k < length f.sets → length (cells_in_set f k) ≤ 1201000
set_few f k h l =
    let set : length (cells_in_set f k) ≤ cells_in f.sets = get_or-le-sum_by (λ (s : SetValue). length s.cells) f.sets k no_set l in
    omega (arith, set, h.cells_limit)

-- weight times count, as it was read
pub given_term : (ps : List PieceValue) (k weight : ℕ) (gs : List Give) (count : ℕ) (c : Cell) → weight ≡ weight_at ps k → gs ≡ gives_at ps k → count ≡ piece_count gs c
    → weight * count ≡ weight_at ps k * piece_count (gives_at ps k) c
given_term ps k weight gs count c w g n =
    ap (λ m. m * count) w ∙ ap (λ m. weight_at ps k * m) (n ∙ ap (λ (hs : List Give). piece_count hs c) g)

-- the cells that were read
pub set_read : (f : FamilyValue) (k : ℕ) (q : SetValue) (cells : List Cell) → slice_get f.sets (k + 1 - 1) ≡ Some q → cells ≡ q.cells → cells ≡ cells_in_set f k
set_read f k q cells e s =
    let at : k + 1 - 1 ≡ k = omega arith in
    let found : slice_get f.sets k ≡ Some q = ap (slice_get f.sets) (sym at) ∙ e in
    s ∙ ap (λ (t : SetValue). t.cells) (sym (get_or_from_slice_get f.sets k q no_set found))

pub set_units_small : (f : FamilyValue) (x : ScaledValue) (k n : ℕ) → IsFamily f → IsScaledMatrix x → k < length f.sets → n ≡ set_sum (units_of x) (set_cells f (k + 1)) → n + x.denominator < 2 ^ 128
set_units_small f x k n h m l e =
    let same = e ∙ ap (set_sum (units_of x)) (set_cells_are f k l) in
    omega (arith, same, set_small x (cells_in_set f k) m (set_rises f k h l), m.limit)

abbrev set_answer : ℕ → ℕ → ℕ → ℕ → ℕ → Option Fault
set_answer k s units d m = cond (not (is_rounded units d m)) (Some (SetNotRounded (k + 1) (s + 1) m)) None

module _ (f : FamilyValue) (x : ScaledValue) (ps : List PieceValue) (k s units d m : ℕ) (l : s < length f.sets) (gs : List Give) (cells : List Cell)
    (e : units ≡ set_sum (units_of x) (set_cells f (s + 1))) (t : d ≡ x.denominator) (n : m ≡ set_sum (piece_count gs) cells) (g : gs ≡ gives_at ps k) (c : cells ≡ cells_in_set f s) where
  set_answered : set_answer k s units d m ≡ set_look f x ps k s
  set_answered =
      let sum : units ≡ set_sum (units_of x) (cells_in_set f s) = e ∙ ap (set_sum (units_of x)) (set_cells_are f s l) in
      let count : m ≡ set_sum (piece_count (gives_at ps k)) (cells_in_set f s) = n ∙ ap (λ (hs : List Give). set_sum (piece_count hs) cells) g ∙ ap (set_sum (piece_count (gives_at ps k))) c in
      ap (λ u. set_answer k s u d m) sum ∙ ap (λ u. set_answer k s (set_sum (units_of x) (cells_in_set f s)) u m) t ∙ ap (λ u. set_answer k s (set_sum (units_of x) (cells_in_set f s)) x.denominator u) count

  pub set_none : is_rounded units d m ≡ true → None ≡ set_look f x ps k s
  set_none r = sym (ap (λ b. cond (not b) (Some (SetNotRounded (k + 1) (s + 1) m)) None) r) ∙ set_answered

  pub set_some : is_rounded units d m ≡ false → Some (SetNotRounded (k + 1) (s + 1) m) ≡ set_look f x ps k s
  set_some r = sym (ap (λ b. cond (not b) (Some (SetNotRounded (k + 1) (s + 1) m)) None) r) ∙ set_answered
