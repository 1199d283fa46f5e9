-- Ranks of sets, and the price of a cell.
use Rattle.std.proofs.Common.{◌≡◌, ℕ, zero, suc, ◌+◌, ◌-◌, ◌*◌, ◌<◌, ◌≤◌, List, [], ◌∷◌, ◌&&◌, true, false, cond, length, length-take, map, get_or, take, Option, Some, None, refl, ap, sym, ◌∙◌, subst, inl, inr, arith}
use Rattle.std.specs.Prelude.{min, sum_by, ◌==◌, slice_index}
use Rattle.std.specs.List.{zip, range_with_len}
use Rattle.std.proofs.Math.Nat.{mul-add}
use Rattle.std.proofs.lemmas.Bool.{cases_lt, both_ways, eq-eqb, ne_eqb}
use Rattle.std.proofs.lemmas.List.{get_or-take, get_or_past}
use Rattle.std.proofs.lemmas.List.Sums.{sum_by-cons}
use Rattle.definitions.specs.declared.Cell.{Cell}
use Rattle.definitions.specs.Sets.{cell_of, holds, SetValue, IsSet, IsCellWithin, set_cells, set_side}
use Rattle.definitions.specs.Trees.{TreesValue, AreTreesOf, parent_at, deepest_at, chain_of}
use Rattle.definitions.specs.Values.{Limit, ProblemValue, IsProblem, stated_sets, PricesValue}
use Rattle.definitions.specs.Eating.{full_at, moment_at}
use Rattle.definitions.specs.Certificate.{moment_number, chain_rank, recipe_width, recipe_price, cell_price}
use Rattle.definitions.proofs.Families.{no_set, cells_of_set, sets_of_problem}
use Rattle.definitions.specs.Laws.{limit_of_set}
use Rattle.side_laws.specs.Sums.{is_holder, least_over}
use Rattle.side_laws.proofs.Members.{least_start, least_member, least_from}
use Rattle.side_laws.proofs.Trees.{IsSetOrNone, parent_known, chain_none, chain_step, chain_holds, deepest_known}
use Rattle.side_laws.proofs.ChainSums.{chain_sum_by_test}
use Rattle.side_laws.proofs.Rows.{stated_side, row_side, two_is_stated}
use Rattle.eating_laws.proofs.Full.{cells_at, full_le, full_below}
use Rattle.eating_laws.proofs.Places.{full_is}
use Rattle.price_cert.proofs.Numbers.{number_later, number_before}
use Rattle.price_cert.proofs.RankSteps.{least_min}

-- a property of D and of the number of each limit that holds the cell is one of the moment
pub full_held : (P : ℕ → Type 0) (D : ℕ) (limits : List Limit) (e : List ℕ) (i a : ℕ) → P D → ((j : ℕ) → j < length e → holds (cells_at limits j) (cell_of i a) ≡ true → P (moment_at e j))
    → P (full_at D limits e i a)
full_held P D limits e i a end h = elim (full_is (record { agents = []; limits = limits }) D e i a).one [
  | inl late ↦ subst P (sym late) end
  | inr (j, l, held, at) ↦ subst P (sym at) (h j l held)
]

telescope : (w r p t : ℕ) → r ≤ p → p ≤ t → w * (p - r) + w * (t - p) ≡ w * (t - r)
telescope w r p t h k = (let e : (p - r) + (t - p) ≡ t - r = omega arith in sym (mul-add w (p - r) (t - p)) ∙ ap (λ n. w * n) e)

no_times : (w n : ℕ) → n ≡ 0 → w * n ≡ 0
no_times w n e = (let z : w * 0 ≡ 0 = omega arith in ap (λ k. w * k) e ∙ z)

-- the cells of the limit of a stated set
pub stated_cells : (sets : List SetValue) (j : ℕ) → cells_at (map limit_of_set sets) j ≡ (get_or sets j no_set).cells
stated_cells [] j = refl
stated_cells (s ∷ sets) zero = refl
stated_cells (s ∷ sets) (suc j) = stated_cells sets j

-- a sum over all sets of what only the first k have
first_sets : (c : Cell) (w F : ℕ → ℕ) (n k : ℕ) (sets : List SetValue) → k ≤ length sets → ((j : ℕ) → j < k → F (n + j) ≡ cond (holds (get_or sets j no_set).cells c) (w (n + j)) 0)
    → ((j : ℕ) → k ≤ j → j < length sets → F (n + j) ≡ 0)
    → sum_by F (range_with_len n (length sets)) ≡ sum_by (λ (s : SetValue × ℕ). cond (holds s.0.cells c) s.1 0) (zip (take k sets) (map w (range_with_len n k)))
first_sets c w F n zero [] l f g = refl
first_sets c w F n (suc k) [] l f g = absurd (omega arith)
first_sets c w F n zero (q ∷ sets) l f g =
    let here : F n ≡ 0 = subst (λ m. F m ≡ 0) (let z : n + 0 ≡ n = omega arith in z) (g 0 (omega arith) (omega arith)) in
    let rest = first_sets c w F (n + 1) zero sets (omega arith) (λ j m. absurd (omega arith))
    (λ j m m'. subst (λ x. F x ≡ 0) (let z : n + suc j ≡ n + 1 + j = omega arith in z) (g (suc j) (omega arith) (omega arith))) in
    omega (arith, here, rest, sum_by-cons F n (range_with_len (n + 1) (length sets)))
first_sets c w F n (suc k) (q ∷ sets) l f g =
    let z : n + 0 ≡ n = omega arith in
    let here : F n ≡ cond (holds q.cells c) (w n) 0 = subst (λ m. F m ≡ cond (holds q.cells c) (w m) 0) z (f 0 (omega arith)) in
    let rest = first_sets c w F (n + 1) k sets (omega arith)
    (λ j m. subst (λ x. F x ≡ cond (holds (get_or sets j no_set).cells c) (w x) 0) (let y : n + suc j ≡ n + 1 + j = omega arith in y) (f (suc j) (omega arith)))
    (λ j m m'. subst (λ x. F x ≡ 0) (let y : n + suc j ≡ n + 1 + j = omega arith in y) (g (suc j) (omega arith) (omega arith))) in
    omega (
      arith,
      here,
      rest,
      sum_by-cons F n (range_with_len (n + 1) (length sets)),
      sum_by-cons (λ (s : SetValue × ℕ). cond (holds s.0.cells c) s.1 0) (q, w n) (zip (take k sets) (map w (range_with_len (n + 1) k))),
    )

module _ (p : ProblemValue) (h : IsProblem p) (t : TreesValue) (r : AreTreesOf p.family t) (d : ℕ) (e : List ℕ) where
  abbrev number_of : ℕ → ℕ
  number_of s = moment_number e d (slice_index e (s - 1))

  abbrev top : ℕ
  top = moment_number e d d

  abbrev rank : Option ℕ → ℕ
  rank o = chain_rank t e d o

  -- the rank of a set is its number, or that of its parent if it is smaller
  pub rank_step : (s : ℕ) → IsSet p.family s → rank (Some s) ≡ min (rank (parent_at t s)) (number_of s)
  rank_step s known = ap (λ l. least_over top number_of l) (chain_step p.family h.family.lawful t r s known) ∙ least_min number_of top (number_of s) (chain_of t (parent_at t s))

  pub rank_top : (o : Option ℕ) → rank o ≤ top
  rank_top o = least_start number_of top (chain_of t o)

  pub rank_none : rank None ≡ top
  rank_none = ap (λ l. least_over top number_of l) (chain_none t)

  -- a set with a price is full before the end
  pub priced_early : (s : ℕ) → IsSet p.family s → 0 < recipe_price p t d e s → slice_index e (s - 1) < d
  priced_early s known priced = elim (cases_lt (rank (Some s)) (rank (parent_at t s))) [
    | inl less ↦
        let step = rank_step s known in
        let high = rank_top (parent_at t s) in
        number_before e d (slice_index e (s - 1)) d (omega (arith, step, high, less))
    | inr more ↦ (let zero : recipe_price p t d e s ≡ 0 = no_times (recipe_width p) (rank (parent_at t s) - rank (Some s)) (omega (arith, more)) in absurd (omega (arith, zero, priced)))
  ]

  -- the prices along a chain
  along : (xs : List ℕ) (o : Option ℕ) → IsSetOrNone p.family h.family.lawful t r o → chain_of t o ≡ xs → sum_by (recipe_price p t d e) xs ≡ recipe_width p * (top - rank o)
  along [] o known q = (let same = ap (λ l. least_over top number_of l) q in sym (no_times (recipe_width p) (top - rank o) (omega (arith, same))))
  along (x ∷ xs) None known q = (let no : [] ≡ x ∷ xs = sym (chain_none t) ∙ q in absurd (cc))
  along (x ∷ xs) (Some s) known q =
      let is_set = known s refl in
      let both : s ∷ chain_of t (parent_at t s) ≡ x ∷ xs = sym (chain_step p.family h.family.lawful t r s is_set) ∙ q in
      let head : s ≡ x = cc in
      let tail : chain_of t (parent_at t s) ≡ xs = cc in
      let rest = along xs (parent_at t s) (parent_known p.family h.family.lawful t r s is_set) tail in
      let step = rank_step s is_set in
      let high = rank_top (parent_at t s) in
      let up : rank (Some s) ≤ rank (parent_at t s) = omega (arith, step) in
      let join = telescope (recipe_width p) (rank (Some s)) (rank (parent_at t s)) top up high in
      let same = ap (recipe_price p t d e) head in
      omega (arith, rest, join, same, sum_by-cons (recipe_price p t d e) x xs)

  -- the prices of a chain add up to the width times what its rank is below the top
  pub chain_price : (o : Option ℕ) → IsSetOrNone p.family h.family.lawful t r o → sum_by (recipe_price p t d e) (chain_of t o) ≡ recipe_width p * (top - rank o)
  chain_price o known = along (chain_of t o) o known refl

  -- the moment at which one of the stated sets that hold the cell is full
  abbrev pub stated_at : ℕ → ℕ → ℕ
  stated_at i a = full_at d (map limit_of_set (stated_sets p)) e i a

  stated_limit : (j : ℕ) → j < p.stated → cells_at (map limit_of_set (stated_sets p)) j ≡ set_cells p.family (j + 1)
  stated_limit j l =
      let many = sets_of_problem p h in
      let place : j + 1 - 1 ≡ j = omega arith in
      stated_cells (stated_sets p) j
      ∙ ap (λ (s : SetValue). s.cells) (get_or-take p.stated p.family.sets j no_set l)
      ∙ ap (λ n. (get_or p.family.sets n no_set).cells) (sym place)
      ∙ sym (cells_of_set p.family (j + 1) (omega arith, omega (arith, many)) no_set)

  module _ (i a : ℕ) (inside : IsCellWithin p.family.agents p.family.columns (cell_of i a)) (size : p.stated ≤ length e) where
    abbrev deepest : Option ℕ
    deepest = deepest_at t 2 (cell_of i a)

    held_limit : (j : ℕ) → holds (cells_at (map limit_of_set (stated_sets p)) j) (cell_of i a) ≡ true → j < p.stated
    held_limit j held = elim (cases_lt j p.stated) [
      | inl less ↦ less
      | inr more ↦
          let many = sets_of_problem p h in
          let none : cells_at (map limit_of_set (stated_sets p)) j ≡ [] = stated_cells (stated_sets p) j ∙ ap (λ (s : SetValue). s.cells) (get_or_past (stated_sets p) j no_set (past more)) in
          absurd (both_ways _ (ap (λ l. holds l (cell_of i a)) none) held)
    ]
      where
        past : p.stated ≤ j → length (stated_sets p) ≤ j
        past more = omega (arith, more, length-take p.stated p.family.sets)

    low : rank deepest ≤ moment_number e d (stated_at i a)
    low = full_held (λ x. rank deepest ≤ moment_number e d x) d (map limit_of_set (stated_sets p)) e i a (rank_top deepest) (λ j l held.
        (let known = held_limit j held in
        let many = sets_of_problem p h in
        let set : IsSet p.family (j + 1) = (omega arith, omega (arith, many, known)) in
        let side = stated_side p h (j + 1) set (omega (arith, known)) in
        let here : holds (set_cells p.family (j + 1)) (cell_of i a) ≡ true = subst (λ cells. holds cells (cell_of i a) ≡ true) (stated_limit j known) held in
        let member = (chain_holds p.family h.family.lawful t r 2 (cell_of i a) (inr refl) inside (j + 1)).1 (set, side, here) in
        let place : j + 1 - 1 ≡ j = omega arith in
        let same = ap (λ n. moment_number e d (slice_index e n)) place in
        let least = least_member number_of top (chain_of t deepest) (j + 1) member in
        omega (arith, same, least)))

    high : moment_number e d (stated_at i a) ≤ rank deepest
    high = least_from number_of top (moment_number e d (stated_at i a)) (chain_of t deepest) (number_later e d (stated_at i a) d (full_le d (map limit_of_set (stated_sets p)) e i a))
        (λ u m.
        (let holder = (chain_holds p.family h.family.lawful t r 2 (cell_of i a) (inr refl) inside u).0 m in
        let stated = two_is_stated p h u holder.0 holder.1 in
        let some = holder.0.0 in
        let place : u - 1 + 1 ≡ u = omega (arith, some) in
        let cells : cells_at (map limit_of_set (stated_sets p)) (u - 1) ≡ set_cells p.family u = stated_limit (u - 1) (omega (arith, stated, some)) ∙ ap (set_cells p.family) place in
        let held : holds (cells_at (map limit_of_set (stated_sets p)) (u - 1)) (cell_of i a) ≡ true = subst (λ xs. holds xs (cell_of i a) ≡ true) (sym cells) holder.2 in
        number_later e d (stated_at i a) (slice_index e (u - 1)) (full_below d (map limit_of_set (stated_sets p)) e i a (u - 1) (omega (arith, stated, some, size)) held)))

    -- the rank of the deepest set that holds a cell is the number of the moment at which one of these sets is full
    pub deepest_rank : moment_number e d (stated_at i a) ≡ rank deepest
    deepest_rank = omega (arith, low, high)

    -- the price of a cell
    pub price_is : (y : PricesValue) → y.price ≡ map (recipe_price p t d e) (range_with_len 1 p.stated)
        → cell_price p y (cell_of i a) ≡ recipe_width p * (top - moment_number e d (stated_at i a))
    price_is y prices =
        let c = cell_of i a in
        let w = recipe_price p t d e in
        let many = sets_of_problem p h in
        ap (λ l. sum_by (λ (s : SetValue × ℕ). cond (holds s.0.cells c) s.1 0) (zip (stated_sets p) l)) prices
        ∙ sym (first_sets c w (λ s. cond (is_holder p.family 2 c s) (w s) 0) 1 p.stated p.family.sets (omega (arith, many)) stated later)
        ∙ sym (chain_sum_by_test p.family h.family t r 2 (inr refl) c inside w)
        ∙ chain_price deepest (deepest_known p.family h.family.lawful t r 2 c (inr refl) inside)
        ∙ ap (λ n. recipe_width p * (top - n)) (sym deepest_rank)
      where
        stated : (j : ℕ) → j < p.stated → cond (is_holder p.family 2 (cell_of i a) (1 + j)) (recipe_price p t d e (1 + j)) 0
            ≡ cond (holds (get_or p.family.sets j no_set).cells (cell_of i a)) (recipe_price p t d e (1 + j)) 0
        stated j l =
            let many = sets_of_problem p h in
            let set : IsSet p.family (1 + j) = (omega arith, omega (arith, many, l)) in
            let place : 1 + j - 1 ≡ j = omega arith in
            let side : (set_side p.family (1 + j) == 2) ≡ true = eq-eqb (set_side p.family (1 + j)) 2 (stated_side p h (1 + j) set (omega (arith, l))) in
            let cells : set_cells p.family (1 + j) ≡ (get_or p.family.sets j no_set).cells =
            cells_of_set p.family (1 + j) set no_set ∙ ap (λ n. (get_or p.family.sets n no_set).cells) place in
            ap (λ b. cond (b && holds (set_cells p.family (1 + j)) (cell_of i a)) (recipe_price p t d e (1 + j)) 0) side
            ∙ ap (λ l. cond (holds l (cell_of i a)) (recipe_price p t d e (1 + j)) 0) cells

        later : (j : ℕ) → p.stated ≤ j → j < length p.family.sets → cond (is_holder p.family 2 (cell_of i a) (1 + j)) (recipe_price p t d e (1 + j)) 0 ≡ 0
        later j l m =
            let set : IsSet p.family (1 + j) = (omega arith, omega (arith, m)) in
            let side : (set_side p.family (1 + j) == 2) ≡ false = ne_eqb (set_side p.family (1 + j)) 2 (λ two. (let one = row_side p h (1 + j) set (omega (arith, l)) in absurd (omega (arith, one, two)))) in
            ap (λ b. cond (b && holds (set_cells p.family (1 + j)) (cell_of i a)) (recipe_price p t d e (1 + j)) 0) side
