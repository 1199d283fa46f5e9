-- A sound lottery: what its pieces keep, that nothing is worth more, and that tickets count units; and that solutions are sound.
use Rattle.std.proofs.Common.{◌≡◌, ◌&&◌, ◌∙◌, ◌+◌, ◌*◌, ◌<◌, ◌≤◌, ◌⊎◌, ◌++◌, ◌∷◌, [], ℕ, suc, zero, List, true, cond, ap, sym, subst, refl, inl, inr, arith, length, map, drop, get_or, All}
use Rattle.std.specs.Prelude.{count_by, nat_eq, nat_le, nat_lt, slice_get, slice_index, sum_by}
use Rattle.std.specs.List.{AllByRecursion, range_with_len, enumerate_from}
use Rattle.std.specs.Option.{option_map_or}
use Rattle.std.specs.Set.{is_member}
use Rattle.std.proofs.lemmas.Bool.{cases_Bool, cases_lt, and_from, and_parts, both_ways, false_from_ne_true, leb-false, leb-true, lt-ltb}
use Rattle.std.proofs.Math.Seq.{take-append_seam}
use Rattle.std.proofs.lemmas.List.{append-nil, get_or-map, get_or_past, length-map, length_push, map-append}
use Rattle.std.proofs.lemmas.List.Elements.{All-drop, All-same, All-take, All-weaker, filter_passes, recursion_from_All}
use Rattle.std.proofs.lemmas.List.FromFn.{get_or-enumerate_from, get_or-range_with_len, length-enumerate_from, length-range_with_len}
use Rattle.std.proofs.lemmas.List.Sums.{sum_by-cons, get_or-le-sum_by}
use Rattle.definitions.specs.declared.Cell.{Cell}
use Rattle.definitions.specs.Assignment.{IsRandomAssignment}
use Rattle.definitions.specs.Laws.{capped_cells}
use Rattle.definitions.specs.Lotteries.{LotteryValue, SolvesFor, matrices_of}
use Rattle.definitions.specs.Pieces.{WeightedMatrix, Decomposes, weighted, piece_count, matrix_of}
use Rattle.definitions.specs.Rounding.{IsRounded, Rounds}
use Rattle.definitions.specs.Sets.{FamilyValue, SetValue, IsCellWithin, IsFeasible, MeetsQuotas, cell_of, cell_index, cells_of, row_cells, row_sum, set_sum, unit_at, units_of}
use Rattle.definitions.specs.Texts.{null_name}
use Rattle.definitions.specs.Tickets.{piece_of, named_units}
use Rattle.definitions.specs.Values.{PieceValue, ProblemValue, IsProblem, column_count, demand_at, is_capped, limits_of, list_at, listed_cells, row_sets, stated_sets}
use Rattle.definitions.proofs.Capped.{capped_below, each_limit}
use Rattle.definitions.proofs.Cells.{index_within}
use Rattle.definitions.proofs.Listed.{listed_column}
use Rattle.definitions.proofs.Lists.{each_mapped}
use Rattle.definitions.proofs.Sums.{sum_mapped, unit_at_within}
use Rattle.eating_laws.proofs.Assignment.{eating_assigns}
use Rattle.eating_laws.proofs.Feasible.{random_feasible}
use Rattle.certificate_laws.proofs.Duality.{no_more_worth}
use Rattle.certificate_laws.proofs.Limits.{capped_kept}
use Rattle.certificate_laws.proofs.OffLists.{undominated_off_lists}
use Rattle.rounding_laws.proofs.Named.{named_is_unit}
use Rattle.rounding_laws.proofs.Places.{matrix_at}
use Rattle.rounding_laws.proofs.Quotas.{keeps_quotas, small_cell}
use Rattle.lottery_laws.specs.Sound.{HasSetsOf, IsForOneUnit, IsSound, IsSoundFor, MeetsProblem, tickets_giving}

-- ---- sums and counts

-- where each term is 0 or 1, as many terms aren't 0 as the sum
ones_count : (v : ℕ → ℕ) (ts : List ℕ) → ((t : ℕ) → v t ≤ 1) → count_by (λ t. nat_lt 0 (v t)) ts ≡ sum_by v ts
ones_count v [] small = refl
ones_count v (t ∷ ts) small =
    let one : cond {A = ℕ} (nat_lt 0 (v t)) 1 0 ≡ v t = bit (v t) (small t) in
    omega (arith, one, sum_by-cons (λ s. cond {A = ℕ} (nat_lt 0 (v s)) 1 0) t ts, sum_by-cons v t ts, ones_count v ts small)
  where
    bit : (n : ℕ) → n ≤ 1 → cond {A = ℕ} (nat_lt 0 n) 1 0 ≡ n
    bit n small = elim (cases_lt 0 n) [
      | inl some ↦ (let one : 1 ≡ n = omega (arith, some, small) in subst (λ m. cond {A = ℕ} (nat_lt 0 m) 1 0 ≡ m) one refl)
      | inr none ↦ (let zero : 0 ≡ n = omega (arith, none) in subst (λ m. cond {A = ℕ} (nat_lt 0 m) 1 0 ≡ m) zero refl)
    ]

-- a piece at an index counts once at most what each piece counts once at most
once_at : (count : PieceValue → ℕ) (ps : List PieceValue) (k : ℕ) → AllByRecursion (λ p. count p ≤ 1) ps → option_map_or count (slice_get ps k) 0 ≤ 1
once_at count [] k small = omega arith
once_at count (p ∷ ps) zero small = small.0
once_at count (p ∷ ps) (suc k) small = once_at count ps k small.1

-- a cell of a row has no more than the row
cell_within_row : (x : Cell → ℕ) (columns i a : ℕ) → a < columns → x (cell_of i a) ≤ row_sum x columns i
cell_within_row x columns i a inside =
    let at : get_or (range_with_len 0 columns) a 0 ≡ a = get_or-range_with_len 0 columns a 0 inside ∙ (let plain : 0 + a ≡ a = omega arith in plain) in
    let term : x (cell_of i (get_or (range_with_len 0 columns) a 0)) ≤ sum_by (λ b. x (cell_of i b)) (range_with_len 0 columns) =
    get_or-le-sum_by (λ b. x (cell_of i b)) (range_with_len 0 columns) a 0 (omega (arith, inside, length-range_with_len 0 columns)) in
    omega (arith, term, ap (λ b. x (cell_of i b)) at, sum_mapped x (cell_of i) (range_with_len 0 columns))

-- what holds of all holds of those in front
All-front : {X : Type 0} (P : X → Type 0) (xs ys : List X) → All P (xs ++ ys) → All P xs
All-front P xs ys all = subst (All P) (take-append_seam xs ys) (All-take P (length xs) (xs ++ ys) all)

-- ---- what a whole matrix keeps of a random assignment that it rounds

-- the row of agent i is a set of the family
each_row : (P : SetValue → Type 0) (p : ProblemValue) (i : ℕ) → IsProblem p → i < length p.agents → All P p.family.sets
    → P (record { side = 1; floor = demand_at p i; ceiling = demand_at p i; cells = row_cells (column_count p) i })
each_row P p i h inside all =
    let row : ℕ × ℕ → SetValue = λ w. record { side = 1; floor = w.1; ceiling = w.1; cells = row_cells (column_count p) w.0 } in
    let many : i < length p.demands = omega (arith, inside, h.demands_many) in
    let known : i < length (enumerate_from 0 p.demands) = omega (arith, many, length-enumerate_from 0 p.demands) in
    let rows : All P (row_sets (column_count p) p.demands) =
    All-same P (row_sets (column_count p) p.demands) (drop p.stated p.family.sets) (sym h.rows) (All-drop P p.stated p.family.sets all) in
    let at : get_or (row_sets (column_count p) p.demands) i (row (0, 0)) ≡ row (0 + i, slice_index p.demands i) =
    get_or-map row (enumerate_from 0 p.demands) i (0, 0) (row (0, 0)) known ∙ ap row (get_or-enumerate_from 0 p.demands i (0, 0) many) in
    let plain : 0 + i ≡ i = omega arith in
    subst (λ n. P (row (n, demand_at p i))) plain (subst P at (rows i (row (0, 0)) (omega (arith, known, length-map (enumerate_from 0 p.demands) row))))

module _ (f : FamilyValue) (p : ProblemValue) (l : LotteryValue) (s : IsSoundFor f p l) (has : HasSetsOf p f) where
  abbrev d : ℕ
  d = l.shares.denominator

  abbrev x : Cell → ℕ
  x = units_of l.shares

  h : IsProblem p
  h = s.problem

  assigned : IsRandomAssignment p d x
  assigned = s.assigned

  feasible : IsFeasible p.family l.shares
  feasible = random_feasible p l.shares h assigned

  pub wide : l.shares.columns ≡ column_count p
  wide = s.lottery.columns ∙ ap (λ (names : List (List ℕ)). length names) s.columns ∙ length_push p.objects null_name

  pub tall : l.shares.agents ≡ length p.agents
  tall = s.lottery.rows ∙ ap (λ (names : List (List ℕ)). length names) s.agents

  -- the cells of the sets of f are those of the problem's family, and then others
  cells_first : cells_of f ≡ cells_of p.family ++ map (λ (q : SetValue). q.cells) has.0
  cells_first = ap (λ (sets : List SetValue). map (λ (q : SetValue). q.cells) sets) has.1 ∙ map-append (λ (q : SetValue). q.cells) p.family.sets has.0

  rounds_own : (m : List ℕ) → Rounds l.shares.columns (cells_of f) l.shares.units d m → Rounds l.shares.columns (cells_of p.family) l.shares.units d m
  rounds_own m r = record {
    shape = r.shape;
    cells = r.cells;
    sums = All-front (λ q. IsRounded (set_sum (unit_at l.shares.columns l.shares.units) q) d (set_sum (unit_at l.shares.columns m) q)) (cells_of p.family) _
        (subst (All (λ q. IsRounded (set_sum (unit_at l.shares.columns l.shares.units) q) d (set_sum (unit_at l.shares.columns m) q))) cells_first r.sums);
  }

  rounded : All (λ piece. Rounds l.shares.columns (cells_of p.family) l.shares.units d piece.matrix) (matrices_of l)
  rounded =
      All-weaker (λ (piece : WeightedMatrix). Rounds l.shares.columns (cells_of f) l.shares.units d piece.matrix) (λ (piece : WeightedMatrix). Rounds l.shares.columns (cells_of p.family) l.shares.units d piece.matrix)
      (λ piece r. rounds_own piece.matrix r) (matrices_of l)
      (subst (λ n. All (λ (piece : WeightedMatrix). Rounds n (cells_of f) l.shares.units d piece.matrix) (matrices_of l)) (sym wide) s.pieces.rounded)

  -- each piece meets the quotas of the problem's family
  quotas : All (λ piece. MeetsQuotas p.family piece.matrix) (matrices_of l)
  quotas k e inside =
      let family : l.shares.columns ≡ p.family.columns = wide ∙ sym h.family_columns in
      keeps_quotas p.family l.shares (get_or (matrices_of l) k e).matrix assigned.one family feasible
      (subst (λ n. Rounds n (cells_of p.family) l.shares.units d (get_or (matrices_of l) k e).matrix) family (rounded k e inside))

  -- a cell with one whole unit at most has one unit in a piece at most
  small_in_piece : (c : Cell) → IsCellWithin l.shares.agents l.shares.columns c → x c ≤ d → (m : List ℕ) → Rounds l.shares.columns (cells_of p.family) l.shares.units d m
      → unit_at l.shares.columns m c ≤ 1
  small_in_piece c within small m rounds =
      let short : cell_index l.shares.columns c < length l.shares.units = omega (arith, s.lottery.shares.shape, index_within l.shares.agents l.shares.columns c.agent c.object within.0 within.1) in
      let here = unit_at_within l.shares.columns l.shares.units c within.1 in
      let there = unit_at_within l.shares.columns m c within.1 in
      let one = small_cell l.shares.columns d (cell_index l.shares.columns c) (cells_of p.family) l.shares.units m assigned.one rounds short (omega (arith, small, here)) in
      omega (arith, one, there)

  -- a capped cell is within the matrix
  capped_within : (c : Cell) → is_capped p c ≡ true → IsCellWithin l.shares.agents l.shares.columns c
  capped_within c capped =
      let below : c.object < length p.objects = capped_below p c capped in
      let parts = and_parts (nat_le 2 (demand_at p c.agent)) (is_member nat_eq (list_at p c.agent) c.object && nat_lt c.object (length p.objects)) capped in
      let two : 2 ≤ demand_at p c.agent = leb-true 2 (demand_at p c.agent) parts.0 in
      (agent (cases_lt c.agent (length p.demands)) two, omega (arith, below, wide))
    where
      agent : (c.agent < length p.demands) ⊎ (length p.demands ≤ c.agent) → 2 ≤ demand_at p c.agent → c.agent < l.shares.agents
      agent (inl inside) two = omega (arith, inside, tall, h.demands_many)
      agent (inr past) two = absurd (omega (arith, two, get_or_past p.demands c.agent 0 past))

  -- each piece keeps the ceiling of each limit
  ceilings : All (λ piece. All (λ q. set_sum (unit_at l.shares.columns piece.matrix) q.cells ≤ q.ceiling) (limits_of p)) (matrices_of l)
  ceilings k e inside =
      let m : List ℕ = (get_or (matrices_of l) k e).matrix in
      each_limit p h (λ q. set_sum (unit_at l.shares.columns m) q.cells ≤ q.ceiling)
      (subst (λ n. All (λ (q : SetValue). set_sum (unit_at n m) q.cells ≤ q.ceiling) (stated_sets p)) (h.family_columns ∙ sym wide)
      (All-weaker (λ (q : SetValue). (q.floor ≤ set_sum (unit_at p.family.columns m) q.cells) × (set_sum (unit_at p.family.columns m) q.cells ≤ q.ceiling))
      (λ (q : SetValue). set_sum (unit_at p.family.columns m) q.cells ≤ q.ceiling) (λ q both. both.1) (stated_sets p)
      (All-take (λ (q : SetValue). (q.floor ≤ set_sum (unit_at p.family.columns m) q.cells) × (set_sum (unit_at p.family.columns m) q.cells ≤ q.ceiling)) p.stated p.family.sets (quotas k e inside))))
      (All-weaker (λ c. is_capped p c ≡ true) (λ c. set_sum (unit_at l.shares.columns m) (c ∷ []) ≤ 1)
      (λ c capped. (let one = small_in_piece c (capped_within c capped) (capped_kept p x d c h assigned.kept capped) m (rounded k e inside) in omega (arith, one, sum_by-cons (unit_at l.shares.columns m) c [])))
      (capped_cells p) (filter_passes (is_capped p) (listed_cells p)))

  -- each piece gives each agent its demand
  demands : All (λ piece. (i : ℕ) → i < length p.agents → row_sum (unit_at l.shares.columns piece.matrix) l.shares.columns i ≡ demand_at p i) (matrices_of l)
  demands k e inside i row =
      let m : List ℕ = (get_or (matrices_of l) k e).matrix in
      let both = each_row (λ q. (q.floor ≤ set_sum (unit_at p.family.columns m) q.cells) × (set_sum (unit_at p.family.columns m) q.cells ≤ q.ceiling)) p i h row (quotas k e inside) in
      let exact : row_sum (unit_at p.family.columns m) (column_count p) i ≡ demand_at p i = omega (arith, both.0, both.1) in
      subst (λ n. row_sum (unit_at l.shares.columns m) n i ≡ demand_at p i) (sym wide)
      (subst (λ n. row_sum (unit_at n m) (column_count p) i ≡ demand_at p i) (h.family_columns ∙ sym wide) exact)

  -- ---- tickets

  -- a cell of an agent with a demand of 1 has one whole unit at most
  one_demanded : (c : Cell) → IsCellWithin l.shares.agents l.shares.columns c → demand_at p c.agent ≡ 1 → x c ≤ d
  one_demanded c within one =
      let row : row_sum x (column_count p) c.agent ≡ demand_at p c.agent * d = assigned.rows c.agent (omega (arith, within.0, tall)) in
      let bound : x (cell_of c.agent c.object) ≤ row_sum x (column_count p) c.agent = cell_within_row x (column_count p) c.agent c.object (omega (arith, within.1, wide)) in
      let whole : demand_at p c.agent * d ≡ 1 * d = ap (λ n. n * d) one in
      omega (arith, row, bound, whole)

  -- so has one of an object
  one_whole : (c : Cell) → IsCellWithin l.shares.agents l.shares.columns c → IsForOneUnit p c → x c ≤ d
  one_whole c within (inl one) = one_demanded c within one
  one_whole c within (inr below) = elim (cases_Bool (nat_le 2 (demand_at p c.agent))) [
    | inl two ↦ elim (cases_Bool (is_member nat_eq (list_at p c.agent) c.object)) [
      | inl listed ↦ capped_kept p x d c h assigned.kept (and_from _ _ two (and_from _ _ listed (lt-ltb c.object (length p.objects) below)))
      | inr off ↦ (let none : x c ≡ 0 = assigned.listed c (false_from_ne_true _ (λ e. both_ways _ off (listed_column p c e))) in omega (arith, none))
    ]
    | inr few ↦
        let inside : c.agent < length p.demands = omega (arith, within.0, tall, h.demands_many) in
        let some : 1 ≤ demand_at p c.agent = h.demands c.agent 0 inside in
        let most : demand_at p c.agent < 2 = leb-false 2 (demand_at p c.agent) few in
        one_demanded c within (omega (arith, some, most))
  ]

  -- each piece gives such a cell once at most
  once : (c : Cell) → IsCellWithin l.shares.agents l.shares.columns c → IsForOneUnit p c → AllByRecursion (λ piece. piece_count piece.gives c ≤ 1) l.pieces
  once c within one =
      each_weaker l.pieces (each_mapped (λ (piece : WeightedMatrix). Rounds l.shares.columns (cells_of p.family) l.shares.units d piece.matrix) (weighted l.shares.agents l.shares.columns) l.pieces
      (recursion_from_All (λ (piece : WeightedMatrix). Rounds l.shares.columns (cells_of p.family) l.shares.units d piece.matrix) (matrices_of l) rounded))
    where
      each_weaker : (ps : List PieceValue) → AllByRecursion (λ piece. Rounds l.shares.columns (cells_of p.family) l.shares.units d (matrix_of l.shares.agents l.shares.columns piece.gives)) ps
          → AllByRecursion (λ piece. piece_count piece.gives c ≤ 1) ps
      each_weaker [] all = tt
      each_weaker (piece ∷ ps) all = (
        (let m = matrix_of l.shares.agents l.shares.columns piece.gives in
            let count = matrix_at l.shares.agents l.shares.columns piece.gives c.agent c.object within.0 within.1 in
            let here = unit_at_within l.shares.columns m c within.1 in
            omega (arith, small_in_piece c within (one_whole c within one) m all.0, here, count)),
        each_weaker ps all.1,
      )

  named : (c : Cell) → IsCellWithin l.shares.agents l.shares.columns c → named_units l.pieces c ≡ x c
  named c within =
      named_is_unit l.shares.agents l.shares.columns d (cells_of f) l.shares.units l.pieces c s.lottery.shares.shape
      (subst (λ n. Decomposes n (cells_of f) l.shares.units d (matrices_of l)) (sym wide) s.pieces) within

  -- as many tickets as its units give it
  tickets : (c : Cell) → IsCellWithin l.shares.agents l.shares.columns c → IsForOneUnit p c → tickets_giving l c ≡ x c
  tickets c within one =
      let count : PieceValue → ℕ = λ piece. piece_count piece.gives c in
      let v : ℕ → ℕ = λ t. option_map_or count (slice_get l.pieces (piece_of (map (λ (piece : PieceValue). piece.weight) l.pieces) t)) 0 in
      ones_count v (range_with_len 0 d) (λ t. once_at count l.pieces (piece_of (map (λ (piece : PieceValue). piece.weight) l.pieces) t) (once c within one))
      ∙ ap (λ n. sum_by v (range_with_len 0 n)) (sym s.lottery.adds_up)
      ∙ named c within

  -- ---- all of it

  pub sound_for_meets : MeetsProblem p s.prices l
  sound_for_meets = record {
    ceilings = ceilings;
    demands = demands;
    undominated = λ e other within more. undominated_off_lists p s.prices d x e other h assigned s.certified within.one within.demands within.ceilings more;
    worth = λ e other random. no_more_worth p s.prices d x e other h assigned s.certified random;
    named = named;
    tickets = tickets;
  }

-- the problem's own family has its sets, and no others
pub own_sets : (p : ProblemValue) → HasSetsOf p p.family
own_sets p = ([], sym (append-nil p.family.sets))

pub sound_meets : (p : ProblemValue) (l : LotteryValue) (s : IsSound p l) → MeetsProblem p s.prices l
sound_meets p l s = sound_for_meets p.family p l s (own_sets p)

-- a lottery that solves a problem is sound for it
unfoldable pub solution_sound : (f : FamilyValue) (p : ProblemValue) (l : LotteryValue) → SolvesFor f p l → IsSoundFor f p l
solution_sound f p l s = record {
  problem = s.problem;
  lottery = s.lottery;
  agents = s.agents;
  columns = s.columns;
  lists = s.lists;
  prices = s.prices;
  priced = s.priced;
  assigned = eating_assigns p l.shares s.moments s.problem s.table s.rows;
  certified = s.certified;
  pieces = s.pieces;
}

-- and so meets it, at its own prices
pub solution_meets : (f : FamilyValue) (p : ProblemValue) (l : LotteryValue) (s : SolvesFor f p l) → HasSetsOf p f → MeetsProblem p s.prices l
unfolding solution_sound
solution_meets f p l s has = sound_for_meets f p l (solution_sound f p l s) has
