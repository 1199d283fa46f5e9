-- Gives that are rounded, at as many whole cells as there are, are rounded at each cell: a cell without a give has less than the denominator.
use Rattle.std.proofs.Common.{◌≡◌, ℕ, zero, suc, ◌+◌, ◌/◌, ◌<◌, ◌≤◌, List, [], ◌∷◌, length, get_or, map, filter, count_by, take, ap, sym, refl, ◌∙◌, arith, Bool, true, false, cond, ◌||◌, All, subst, None}
use Rattle.std.specs.Prelude.{◌==◌, nat_le}
use Rattle.std.specs.List.{list_all}
use Rattle.std.proofs.lemmas.Bool.{and_from, and_parts, or_left, eq-eqb, both_ways, leb-false, le-leb, lt-leb, not_from_true}
use Rattle.std.proofs.lemmas.List.{length-map, get_or-map, take_more}
use Rattle.std.proofs.lemmas.List.Elements.{All-get_or, All-push}
use Rattle.std.proofs.lemmas.List.Sums.{length-filter, count_by_more_yes, count_by_more_no}
use Rattle.std.proofs.Math.Nat.{div-eq_of_lt}
use Rattle.definitions.specs.declared.Cell.{Cell}
use Rattle.definitions.specs.declared.Give.{Give}
use Rattle.definitions.specs.Sets.{cell_of, same_cell, holds, units_of, all_cells, IsCellWithin, IsRising, ScaledValue, IsScaledMatrix}
use Rattle.definitions.specs.Values.{PieceValue}
use Rattle.definitions.specs.Pieces.{piece_count, AreGives}
use Rattle.definitions.proofs.Members.{cell_test, rising_distinct, distinct_filter, no_larger_holds, all_members, all_from_members, member_of_filter, member_place}
use Rattle.definitions.proofs.Cells.{cells_distinct, within_is_member}
use Rattle.definitions.proofs.Sums.{sum_mapped, all_units}
use Rattle.cert_check.specs.PieceFaults.{AreRoundedCells, cell_fault_in, cell_look, gives_at, is_rounded, is_whole, whole_count}
use Rattle.cert_check.proofs.Quiet.{silent, silent_in}
use Rattle.cert_check.proofs.Canonical.{give_cell, Rise, IsLawfulGive, before_differs, count_cons, count_first, rise_tail}

abbrev pub no_give : Give
no_give = record { agent = 0; object = 0; count = 0 }

-- the cells of gives that rise
abbrev cells_of_gives : List Give → List Cell
cells_of_gives gs = map give_cell gs

rising_cells : (gs : List Give) → Rise gs → IsRising (cells_of_gives gs)
rising_cells gs r i j d l m =
    let many : length (cells_of_gives gs) ≡ length gs = length-map gs give_cell in
    rw (get_or-map give_cell gs i no_give d (omega (arith, many)), get_or-map give_cell gs j no_give d (omega (arith, many))) (r i j no_give l (omega (arith, many)))

-- the count at the cell of a give
count_at : (gs : List Give) (k : ℕ) (d : Give) → Rise gs → k < length gs → piece_count gs (give_cell (get_or gs k d)) ≡ (get_or gs k d).count
count_at [] k d r l = absurd (omega arith)
count_at (g ∷ gs) zero d r l = count_first g gs r
count_at (g ∷ gs) (suc k) d r l =
    let c : Cell = give_cell (get_or gs k d) in
    let off : same_cell (give_cell g) (give_cell (get_or gs k d)) ≡ false =
    cell_test.turned (give_cell g) (give_cell (get_or gs k d)) ∙ before_differs (give_cell g) (give_cell (get_or gs k d)) (r 0 (suc k) d (omega arith) (omega arith)) in
    let none : cond (same_cell (give_cell g) (give_cell (get_or gs k d))) g.count 0 ≡ 0 = ap (λ b. cond b g.count 0) off in
    omega (arith, count_cons g gs (give_cell (get_or gs k d)), none, count_at gs k d (rise_tail g gs r) (omega arith))

-- no count at a cell without a give
count_off : (gs : List Give) (c : Cell) → holds (cells_of_gives gs) c ≡ false → piece_count gs c ≡ 0
count_off [] c h = refl
count_off (g ∷ gs) c h = by (same_cell c (give_cell g)) refl h (count_off gs c)
  where
    by : (b : Bool) → same_cell c (give_cell g) ≡ b → (b || holds (cells_of_gives gs) c) ≡ false
        → (holds (cells_of_gives gs) c ≡ false → piece_count gs c ≡ 0) → piece_count (g ∷ gs) c ≡ 0
    by true e t rest = cc t
    by false e t rest =
        let off : cond (same_cell (give_cell g) c) g.count 0 ≡ 0 = ap (λ b. cond b g.count 0) (cell_test.turned (give_cell g) c ∙ e) in
        omega (arith, count_cons g gs c, off, rest t)

module _ (x : ScaledValue) (m : IsScaledMatrix x) where
  -- the whole cells are as many as the numbers of at least the denominator
  whole_cells : whole_count x ≡ count_by (is_whole x) (all_cells x.agents x.columns)
  whole_cells =
      ap (count_by (λ u. nat_le x.denominator u)) (sym (all_units x.agents x.columns x.units m.shape))
      ∙ sum_mapped (λ u. cond (nat_le x.denominator u) 1 0) (units_of x) (all_cells x.agents x.columns)

  module _ (gs : List Give) (h : AreGives x.agents x.columns gs) (many : count_by (λ g. is_whole x (give_cell g)) gs ≡ whole_count x) where
    given : List Cell
    given = filter (is_whole x) (cells_of_gives gs)

    whole : List Cell
    whole = filter (is_whole x) (all_cells x.agents x.columns)

    given_within : (c : Cell) → holds (cells_of_gives gs) c ≡ true → IsCellWithin x.agents x.columns c
    given_within c t =
        let (k, l, e) = member_place same_cell cell_test c (cells_of_gives gs) t in
        let inside : k < length gs = omega (arith, l, length-map {A = Give} {B = Cell} gs give_cell) in
        let lawful = All-get_or (IsLawfulGive x.agents x.columns) gs k no_give inside h.0 in
        subst (IsCellWithin x.agents x.columns) (sym (get_or-map give_cell gs k no_give c inside) ∙ e c) (lawful.0, lawful.1)

    given_is_whole : list_all (holds (filter (is_whole x) (all_cells x.agents x.columns))) (filter (is_whole x) (cells_of_gives gs)) ≡ true
    given_is_whole =
        all_from_members same_cell cell_test (holds (filter (is_whole x) (all_cells x.agents x.columns))) (filter (is_whole x) (cells_of_gives gs)) (λ c t.
        let parts = and_parts (holds (cells_of_gives gs) c) (is_whole x c) (sym (member_of_filter same_cell cell_test (is_whole x) (cells_of_gives gs) c) ∙ t) in
        member_of_filter same_cell cell_test (is_whole x) (all_cells x.agents x.columns) c
        ∙ and_from (holds (all_cells x.agents x.columns) c) (is_whole x c) (within_is_member x.agents x.columns c (given_within c parts.0)) parts.1)

    as_many : length (filter (is_whole x) (all_cells x.agents x.columns)) ≤ length (filter (is_whole x) (cells_of_gives gs))
    as_many =
        let all : length (filter (is_whole x) (all_cells x.agents x.columns)) ≡ count_by (is_whole x) (all_cells x.agents x.columns) = length-filter (is_whole x) (all_cells x.agents x.columns) in
        let some : length (filter (is_whole x) (cells_of_gives gs)) ≡ count_by (is_whole x) (cells_of_gives gs) = length-filter (is_whole x) (cells_of_gives gs) in
        let moved : count_by (is_whole x) (cells_of_gives gs) ≡ count_by (λ g. is_whole x (give_cell g)) gs = sum_mapped (λ c. cond (is_whole x c) 1 0) give_cell gs in
        omega (arith, all, some, moved, many, whole_cells)

    whole_is_given : list_all (holds (filter (is_whole x) (cells_of_gives gs))) (filter (is_whole x) (all_cells x.agents x.columns)) ≡ true
    whole_is_given =
        no_larger_holds same_cell cell_test (filter (is_whole x) (cells_of_gives gs)) (filter (is_whole x) (all_cells x.agents x.columns))
        (distinct_filter same_cell cell_test (is_whole x) (cells_of_gives gs) (rising_distinct (cells_of_gives gs) (rising_cells gs h.1)))
        (distinct_filter same_cell cell_test (is_whole x) (all_cells x.agents x.columns) (cells_distinct x.agents x.columns))
        given_is_whole as_many

    -- a cell without a give isn't whole
    off_not_whole : (c : Cell) → IsCellWithin x.agents x.columns c → holds (cells_of_gives gs) c ≡ false → is_whole x c ≡ false
    off_not_whole c w e = by (is_whole x c) refl
      where
        by : (b : Bool) → is_whole x c ≡ b → b ≡ false
        by true t =
            let in_whole : holds (filter (is_whole x) (all_cells x.agents x.columns)) c ≡ true =
            member_of_filter same_cell cell_test (is_whole x) (all_cells x.agents x.columns) c
            ∙ and_from (holds (all_cells x.agents x.columns) c) (is_whole x c) (within_is_member x.agents x.columns c w) t in
            let in_given : holds (filter (is_whole x) (cells_of_gives gs)) c ≡ true =
            all_members same_cell cell_test (holds (filter (is_whole x) (cells_of_gives gs))) (filter (is_whole x) (all_cells x.agents x.columns)) whole_is_given c in_whole in
            let parts = and_parts (holds (cells_of_gives gs) c) (is_whole x c) (sym (member_of_filter same_cell cell_test (is_whole x) (cells_of_gives gs) c) ∙ in_given) in
            absurd (both_ways (holds (cells_of_gives gs) c) e parts.0)
        by false t = refl

    pub rounded_cells : All (λ g. is_rounded (units_of x (give_cell g)) x.denominator g.count ≡ true) gs → AreRoundedCells x gs
    rounded_cells each c w = by (holds (cells_of_gives gs) c) refl
      where
        by : (b : Bool) → holds (cells_of_gives gs) c ≡ b → is_rounded (units_of x c) x.denominator (piece_count gs c) ≡ true
        by true t =
            let (k, l, e) = member_place same_cell cell_test c (cells_of_gives gs) t in
            let inside : k < length gs = omega (arith, l, length-map {A = Give} {B = Cell} gs give_cell) in
            let at : give_cell (get_or gs k no_give) ≡ c = sym (get_or-map give_cell gs k no_give c inside) ∙ e c in
            let count : piece_count gs c ≡ (get_or gs k no_give).count = sym (ap (piece_count gs) at) ∙ count_at gs k no_give h.1 inside in
            let test = All-get_or (λ g. is_rounded (units_of x (give_cell g)) x.denominator g.count ≡ true) gs k no_give inside each in
            ap (is_rounded (units_of x c) x.denominator) count
            ∙ ap (λ (b : Cell). is_rounded (units_of x b) x.denominator (get_or gs k no_give).count) (sym at) ∙ test
        by false t =
            let none : piece_count gs c ≡ 0 = count_off gs c t in
            let small : units_of x c < x.denominator = leb-false x.denominator (units_of x c) (off_not_whole c w t) in
            let quotient : units_of x c / x.denominator ≡ 0 = div-eq_of_lt small in
            ap (is_rounded (units_of x c) x.denominator) none
            ∙ or_left (0 == units_of x c / x.denominator) _ (eq-eqb 0 (units_of x c / x.denominator) (sym quotient))

-- so check 14 finds nothing
pub cells_silent : (x : ScaledValue) (ps : List PieceValue) (k : ℕ) → AreRoundedCells x (gives_at ps k) → cell_fault_in x ps k ≡ None
cells_silent x ps k h = silent_in (cell_look x ps k) (λ _. x.columns) x.agents (λ i a l m. silent _ _ (not_from_true _ (h (cell_of i a) (l, m))))

-- one more give, as it was read
module _ (x : ScaledValue) (gs : List Give) (k n units d : ℕ) (l : k < length gs) (u : units ≡ units_of x (give_cell (get_or gs k no_give))) (e : d ≡ x.denominator) where
  pub whole_more : n ≡ count_by (λ g. is_whole x (give_cell g)) (take k gs) → d ≤ units → n + 1 ≡ count_by (λ g. is_whole x (give_cell g)) (take (k + 1) gs)
  whole_more h t =
      ap (λ j. j + 1) h
      ∙ sym (count_by_more_yes (λ g. is_whole x (give_cell g)) gs k no_give l (le-leb x.denominator (units_of x (give_cell (get_or gs k no_give))) (omega (arith, t, u, e))))

  pub whole_same : n ≡ count_by (λ g. is_whole x (give_cell g)) (take k gs) → units < d → n ≡ count_by (λ g. is_whole x (give_cell g)) (take (k + 1) gs)
  whole_same h t =
      h ∙ sym (count_by_more_no (λ g. is_whole x (give_cell g)) gs k no_give l (lt-leb x.denominator (units_of x (give_cell (get_or gs k no_give))) (omega (arith, t, u, e))))

pub rounded_more : (x : ScaledValue) (gs : List Give) (k units d : ℕ) → k < length gs → units ≡ units_of x (give_cell (get_or gs k no_give)) → d ≡ x.denominator
    → is_rounded units d (get_or gs k no_give).count ≡ true
    → All (λ g. is_rounded (units_of x (give_cell g)) x.denominator g.count ≡ true) (take k gs)
    → All (λ g. is_rounded (units_of x (give_cell g)) x.denominator g.count ≡ true) (take (k + 1) gs)
rounded_more x gs k units d l u e t h =
    let test : is_rounded (units_of x (give_cell (get_or gs k no_give))) x.denominator (get_or gs k no_give).count ≡ true =
    ap (λ y. is_rounded y x.denominator (get_or gs k no_give).count) (sym u) ∙ ap (λ y. is_rounded units y (get_or gs k no_give).count) (sym e) ∙ t in
    subst (All (λ g. is_rounded (units_of x (give_cell g)) x.denominator g.count ≡ true)) (sym (take_more gs k no_give l))
    (All-push (λ g. is_rounded (units_of x (give_cell g)) x.denominator g.count ≡ true) (take k gs) (get_or gs k no_give) h test)
