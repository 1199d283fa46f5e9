-- Cells whose own limit is full before the stated sets that hold them are left out.
use Rattle.std.proofs.Common.{◌≡◌, ℕ, zero, suc, ◌+◌, ◌-◌, ◌*◌, ◌<◌, ◌≤◌, ◌⊎◌, List, [], ◌∷◌, ◌++◌, true, false, length, map, get_or, Some, refl, ap, sym, ◌∙◌, subst, inl, inr, arith, length-append}
use Rattle.std.specs.Prelude.{◌==◌, slice_get, option_map}
use Rattle.std.specs.Option.{option_map_or}
use Rattle.std.proofs.lemmas.Bool.{cases_lt, and_from, both_ways, or_cases, eq-eqb}
use Rattle.std.proofs.lemmas.Option.{slice_get-get_or, slice_get-map}
use Rattle.std.proofs.lemmas.List.{length-map}
use Rattle.std.proofs.lemmas.List.Sums.{sum_by-cons}
use Rattle.definitions.specs.declared.Cell.{Cell}
use Rattle.definitions.specs.Sets.{cell_of, same_cell, holds, set_sum}
use Rattle.definitions.specs.Values.{Limit, ProblemValue, IsProblem, capped_limits, market_of, limits_of, stated_sets, is_capped}
use Rattle.definitions.specs.Laws.{limit_of_set, limit_of_cell, capped_cells}
use Rattle.definitions.specs.Eating.{full_at, moment_at, limit_cells, limit_ceiling, IsEatingTable}
use Rattle.definitions.specs.Certificate.{is_left_out}
use Rattle.definitions.proofs.Capped.{limits_listed, capped_from_limit}
use Rattle.definitions.proofs.Lists.{second_at}
use Rattle.definitions.proofs.Members.{cell_test}
use Rattle.eating_laws.proofs.Full.{cells_at, full_le, full_below}
use Rattle.eating_laws.proofs.Assignment.{share_of, shares_full}
use Rattle.eating.proofs.Capped.{cells_left}
use Rattle.definitions.proofs.Families.{stated_count}
use Rattle.price_cert.proofs.CellPrices.{full_held}

-- a list of one cell holds that cell alone
pub one_cell : (own c : Cell) → holds (own ∷ []) c ≡ true → c ≡ own
one_cell own c h = elim (or_cases (same_cell c own) false h) [
  | inl e ↦ cell_test.sound c own e
  | inr e ↦ cc e
]

module _ (p : ProblemValue) (h : IsProblem p) where
  abbrev stated_limits : List Limit
  stated_limits = map limit_of_set (stated_sets p)

  -- as many limits as stated sets stand first
  pub stated_many : length (map limit_of_set (stated_sets p)) ≡ p.stated
  stated_many = length-map (stated_sets p) limit_of_set ∙ stated_count p h

  -- a cell is full no later than the stated sets that hold it
  pub full_within : (d : ℕ) (e : List ℕ) (i a : ℕ) → full_at d (limits_of p) e i a ≤ full_at d (map limit_of_set (stated_sets p)) e i a
  full_within d e i a = full_held (λ m. full_at d (limits_of p) e i a ≤ m) d stated_limits e i a (full_le d (limits_of p) e i a)
      (λ j l held. full_below d (limits_of p) e i a j l (front stated_limits j held))
    where
      front : (xs : List Limit) (j : ℕ) → holds (cells_at xs j) (cell_of i a) ≡ true → holds (cells_at (xs ++ capped_limits 0 (market_of p).agents) j) (cell_of i a) ≡ true
      front [] j held = absurd (both_ways false refl held)
      front (s ∷ xs) zero held = held
      front (s ∷ xs) (suc j) held = front xs j held

  module _ (d : ℕ) (e : List ℕ) (table : IsEatingTable (market_of p) d e) (i a : ℕ) where
    abbrev stated_moment : ℕ
    stated_moment = full_at d (map limit_of_set (stated_sets p)) e i a

    abbrev x : Cell → ℕ
    x = share_of (market_of p) d e

    -- a capped cell whose own limit is full before the end is left out
    cap_left_out : (j : ℕ) → j < length e → moment_at e j < d → limit_cells (market_of p) j ≡ cell_of i a ∷ [] → limit_ceiling (market_of p) j ≡ 1 → is_capped p (cell_of i a) ≡ true
        → is_left_out p d x (cell_of i a) ≡ true
    cap_left_out j l early cells ceiling capped =
        let sum : set_sum x (cell_of i a ∷ []) ≡ 1 * d = ap (set_sum x) (sym cells) ∙ shares_full p d e h table j l early ∙ ap (λ n. n * d) ceiling in
        let all : x (cell_of i a) ≡ d = omega (arith, sum, sum_by-cons x (cell_of i a) []) in
        and_from (is_capped p (cell_of i a)) (x (cell_of i a) == d) capped (eq-eqb (x (cell_of i a)) d all)

    -- a limit after those of the stated sets that holds the cell is the cell's own
    own_limit : (j : ℕ) → p.stated ≤ j → j < length (limits_of p) → holds (limit_cells (market_of p) j) (cell_of i a) ≡ true
        → (limit_cells (market_of p) j ≡ cell_of i a ∷ []) × (limit_ceiling (market_of p) j ≡ 1) × (is_capped p (cell_of i a) ≡ true)
    own_limit j low l held =
        let c : Cell = get_or (capped_cells p) (j - p.stated) (cell_of 0 0) in
        let room : j - p.stated < length (capped_cells p) =
        omega (arith, low, l, stated_many, ap length (limits_listed p h), length-append stated_limits (map limit_of_cell (capped_cells p)), length-map (capped_cells p) limit_of_cell) in
        let place : j ≡ length stated_limits + (j - p.stated) = omega (arith, stated_many, low) in
        let found : slice_get (limits_of p) j ≡ Some (limit_of_cell c) =
        ap (λ limits. slice_get limits j) (limits_listed p h)
        ∙ ap (slice_get (stated_limits ++ map limit_of_cell (capped_cells p))) place
        ∙ second_at stated_limits (map limit_of_cell (capped_cells p)) (j - p.stated)
        ∙ slice_get-map limit_of_cell (capped_cells p) (j - p.stated)
        ∙ ap (option_map limit_of_cell) (slice_get-get_or (capped_cells p) (j - p.stated) (cell_of 0 0) room) in
        let cells : limit_cells (market_of p) j ≡ c ∷ [] = ap (λ o. option_map_or (λ (s : Limit). s.cells) o []) found in
        let own : cell_of i a ≡ c = one_cell c (cell_of i a) (subst (λ cs. holds cs (cell_of i a) ≡ true) cells held) in (
          cells ∙ ap (λ b. b ∷ []) (sym own),
          ap (λ o. option_map_or (λ (s : Limit). s.ceiling) o 0) found,
          subst (λ b. is_capped p b ≡ true) (sym own) (capped_from_limit p h c (j, low, found)),
        )

    either : (stated_moment ≤ full_at d (limits_of p) e i a) ⊎ (is_left_out p d x (cell_of i a) ≡ true)
    either = full_held (λ m. (stated_moment ≤ m) ⊎ (is_left_out p d x (cell_of i a) ≡ true)) d (limits_of p) e i a (inl (full_le d stated_limits e i a))
        (λ j l held. at_limit j l held (cases_lt j p.stated))
      where
        at_limit : (j : ℕ) → j < length e → holds (cells_at (limits_of p) j) (cell_of i a) ≡ true → (j < p.stated) ⊎ (p.stated ≤ j) → (stated_moment ≤ moment_at e j) ⊎ (is_left_out p d x (cell_of i a) ≡ true)
        at_limit j l held (inl first) =
            let here : cells_at (limits_of p) j ≡ cells_at stated_limits j = cells_left stated_limits (capped_limits 0 (market_of p).agents) j (omega (arith, first, stated_many)) in
            inl (full_below d stated_limits e i a j l (subst (λ c. holds c (cell_of i a) ≡ true) here held))
        at_limit j l held (inr later) = elim (cases_lt (moment_at e j) d) [
          | inl early ↦ (let size = table.size in let own = own_limit j later (omega (arith, l, size)) held in inr (cap_left_out j l early own.0 own.1 own.2))
          | inr late ↦ (let low = full_le d stated_limits e i a in inl (omega (arith, low, late)))
        ]

    -- a cell that isn't left out is full when a stated set that holds it is
    pub full_stated : is_left_out p d x (cell_of i a) ≡ false → full_at d (limits_of p) e i a ≡ stated_moment
    full_stated kept = elim either [
      | inl low ↦ (let high = full_within d e i a in omega (arith, low, high))
      | inr out ↦ absurd (both_ways (is_left_out p d x (cell_of i a)) kept out)
    ]
