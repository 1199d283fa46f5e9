-- Pieces pass exactly where they decompose the matrix.
use Rattle.std.proofs.Common.{◌≡◌, ◌≢◌, ℕ, ◌+◌, ◌-◌, ◌*◌, ◌/◌, ◌<◌, ◌≤◌, List, [], length, get_or, ap, sym, refl, ◌∙◌, arith, true, ◌&&◌, None, inl, inr, All, AllPairs, subst, ◌↔◌}
use Rattle.std.specs.Prelude.{◌==◌, sum_by, slice_index}
use Rattle.std.specs.Bool.{Decides}
use Rattle.std.specs.Cmp.Lexicographic.{pointwise}
use Rattle.std.proofs.lemmas.Bool.{and_from, and_parts, eq-eqb, eqb-true, or_cases, or_left, or_right, both_ways, le-ltb, ltb-false, not_from_true}
use Rattle.std.proofs.lemmas.Slice.Eq.{slice_eq-Decides}
use Rattle.std.proofs.lemmas.List.{length-map, get_or-map}
use Rattle.std.proofs.lemmas.List.Elements.{All-get_or, All-from_get_or, All-map, All-from_recursion, recursion_from_All}
use Rattle.definitions.specs.declared.Cell.{Cell}
use Rattle.definitions.specs.declared.Give.{Give}
use Rattle.definitions.specs.Sets.{cell_of, cells_of, cell_index, set_sum, units_of, unit_at, all_cells, IsCellWithin, IsInRange, FamilyValue, IsFamily, ScaledValue, IsScaledMatrix, SetValue}
use Rattle.definitions.specs.Values.{PieceValue}
use Rattle.definitions.specs.Rounding.{IsRounded, Rounds}
use Rattle.definitions.specs.Pieces.{piece_count, WeightedMatrix, matrix_of, weighted, weighted_pieces, Decomposes}
use Rattle.definitions.specs.Tickets.{named_units}
use Rattle.rounding_laws.proofs.Named.{named_is_unit}
use Rattle.definitions.specs.Firsts.{first_in}
use Rattle.definitions.proofs.Cells.{cell_in_place, cell_count, all_within, index_within}
use Rattle.definitions.proofs.Sums.{sum_mapped, sum_same, sum_same_all, all_units, unit_at_within}
use Rattle.definitions.proofs.FirstFaults.{none-in, none-is-in}
use Rattle.definitions.proofs.Passed.{both-pass}
use Rattle.cert_check.specs.declared.verdicts.Verdict.{Verdict}
use Rattle.cert_check.specs.declared.verdicts.Verdict.TheVariants.{Pass}
use Rattle.cert_check.specs.Verdicts.{verdict_of}
use Rattle.cert_check.specs.PriceFaults.{no_set}
use Rattle.cert_check.specs.PieceFaults.{IsMatrixFor, ArePiecesFor, no_piece, gives_at, cells_in_set, is_rounded, piece_bound, same_give, cell_look, set_look, same_look, met_look, given_units, many_fault, cell_fault_in, cell_fault, set_fault, same_fault, met_fault, first_piece_fault}
use Rattle.cert_check.proofs.Quiet.{quiet, silent, not_false, false_by, quiet_at, silent_at, quiet_in, silent_in}
use Rattle.cert_check.specs.GiveOrder.{IsUnlikeLater}
use Rattle.cert_check.proofs.Canonical.{canonical}
use Rattle.cert_check.proofs.PieceCounts.{lawful_at}
use Rattle.cert_check.proofs.PricePass.{passes, neither}

rounded : (y d m : ℕ) → is_rounded y d m ≡ true → IsRounded y d m
rounded y d m e = elim (or_cases (m == y / d) (m == (y + d - 1) / d) e) [
  | inl down ↦ inl (eqb-true m (y / d) down)
  | inr up ↦ inr (eqb-true m ((y + d - 1) / d) up)
]

test_rounded : (y d m : ℕ) → IsRounded y d m → is_rounded y d m ≡ true
test_rounded y d m (inl e) = or_left (m == y / d) (m == (y + d - 1) / d) (eq-eqb m (y / d) e)
test_rounded y d m (inr e) = or_right (m == y / d) (m == (y + d - 1) / d) (eq-eqb m ((y + d - 1) / d) e)

-- equal gives
give_decides : (g h : Give) → Decides (same_give g h) (g ≡ h)
give_decides g h = (to, from)
  where
    to : same_give g h ≡ true → g ≡ h
    to t =
        let one = and_parts (g.agent == h.agent) ((g.object == h.object) && (g.count == h.count)) t in
        let two = and_parts (g.object == h.object) (g.count == h.count) one.1 in
        ap (λ n. let r : Give = record { agent = n; object = g.object; count = g.count } in r) (eqb-true g.agent h.agent one.0)
        ∙ ap (λ n. let r : Give = record { agent = h.agent; object = n; count = g.count } in r) (eqb-true g.object h.object two.0)
        ∙ ap (λ n. let r : Give = record { agent = h.agent; object = h.object; count = n } in r) (eqb-true g.count h.count two.1)

    from : g ≡ h → same_give g h ≡ true
    from e =
        and_from (g.agent == h.agent) ((g.object == h.object) && (g.count == h.count)) (eq-eqb g.agent h.agent (ap (λ (k : Give). k.agent) e))
        (and_from (g.object == h.object) (g.count == h.count) (eq-eqb g.object h.object (ap (λ (k : Give). k.object) e)) (eq-eqb g.count h.count (ap (λ (k : Give). k.count) e)))

pub gives_decide : (gs hs : List Give) → Decides (pointwise same_give gs hs) (gs ≡ hs)
gives_decide gs hs = slice_eq-Decides give_decides gs hs (pointwise same_give gs hs) refl

-- pairs of pieces
module _ (ps : List PieceValue) where
  same_quiet : same_fault ps ≡ None → (a b : ℕ) → a < b → b < length ps → same_look ps a b ≡ None
  same_quiet e a b l k = none-is-in (same_look ps a) (a + 1) (length ps - (a + 1)) (quiet_at (λ a. first_in (same_look ps a) (a + 1) (length ps - (a + 1))) (length ps) e a (omega arith)) b (omega arith) (omega arith)

  same_silent : ((a b : ℕ) → a < b → b < length ps → same_look ps a b ≡ None) → same_fault ps ≡ None
  same_silent g = silent_at (λ a. first_in (same_look ps a) (a + 1) (length ps - (a + 1))) (length ps)
      (λ a l. none-in (same_look ps a) (a + 1) (length ps - (a + 1)) (λ b low high. g a b (omega arith) (omega arith)))

  -- check 16 finds nothing at a piece that no later one equals
  pub unlike_silent : (a : ℕ) → IsUnlikeLater ps a → first_in (same_look ps a) (a + 1) (length ps - (a + 1)) ≡ None
  unlike_silent a h = none-in (same_look ps a) (a + 1) (length ps - (a + 1)) (λ b low high. silent _ _ (false_by _ (λ t. h b (omega (arith, low)) (omega (arith, high)) ((gives_decide (gives_at ps a) (gives_at ps b)).0 t))))

-- the matrix of gives, at an index and at a cell
at_index : (agents columns : ℕ) (gs : List Give) (i : ℕ) (d : Cell) → i < agents * columns → slice_index (matrix_of agents columns gs) i ≡ piece_count gs (get_or (all_cells agents columns) i d)
at_index agents columns gs i d l = get_or-map (piece_count gs) (all_cells agents columns) i d 0 (omega (arith, cell_count agents columns))

at_cell : (agents columns : ℕ) (gs : List Give) (c : Cell) → IsCellWithin agents columns c → unit_at columns (matrix_of agents columns gs) c ≡ piece_count gs c
at_cell agents columns gs c w =
    unit_at_within columns (matrix_of agents columns gs) c w.1
    ∙ at_index agents columns gs (cell_index columns c) c (index_within agents columns c.agent c.object w.0 w.1)
    ∙ ap (piece_count gs) (cell_in_place agents columns c.agent c.object c w.0 w.1)

module _ (f : FamilyValue) (x : ScaledValue) (ps : List PieceValue) (h : IsFamily f) (m : IsScaledMatrix x) (s : IsMatrixFor f x) (q : ArePiecesFor x ps) where
  -- the units at an index
  units_at : (i : ℕ) (d : Cell) → i < length x.units → slice_index x.units i ≡ units_of x (get_or (all_cells x.agents x.columns) i d)
  units_at i d l =
      ap (λ (us : List ℕ). slice_index us i) (sym (all_units x.agents x.columns x.units m.shape))
      ∙ get_or-map (units_of x) (all_cells x.agents x.columns) i d 0 (omega (arith, cell_count x.agents x.columns, m.shape))

  cell_at : (i : ℕ) (d : Cell) → i < length x.units → IsCellWithin x.agents x.columns (get_or (all_cells x.agents x.columns) i d)
  cell_at i d l =
      All-get_or (IsCellWithin x.agents x.columns) (all_cells x.agents x.columns) i d (omega (arith, cell_count x.agents x.columns, m.shape))
      (All-from_recursion (IsCellWithin x.agents x.columns) (all_cells x.agents x.columns) (all_within x.agents x.columns))

  index_of : (i a : ℕ) → i < x.agents → a < x.columns → i * x.columns + a < length x.units
  index_of i a l k = omega (arith, index_within x.agents x.columns i a l k, m.shape)

  weight_of : sum_by (λ (p : WeightedMatrix). p.weight) (weighted_pieces x.agents x.columns ps) ≡ x.denominator
  weight_of = sum_mapped (λ (p : WeightedMatrix). p.weight) (weighted x.agents x.columns) ps ∙ q.adds_up

  given_at : (i : ℕ) (d : Cell) → i < length x.units
      → sum_by (λ (p : WeightedMatrix). p.weight * slice_index p.matrix i) (weighted_pieces x.agents x.columns ps) ≡ given_units ps (get_or (all_cells x.agents x.columns) i d)
  given_at i d l =
      sum_mapped (λ (p : WeightedMatrix). p.weight * slice_index p.matrix i) (weighted x.agents x.columns) ps
      ∙ sum_same (λ (p : PieceValue). p.weight * slice_index (matrix_of x.agents x.columns p.gives) i) (λ (p : PieceValue). p.weight * piece_count p.gives (get_or (all_cells x.agents x.columns) i d)) ps
      (λ p. ap (λ n. p.weight * n) (at_index x.agents x.columns p.gives i d (omega (arith, m.shape))))

  piece_of_index : (k : ℕ) (d : WeightedMatrix) → k < length ps → get_or (weighted_pieces x.agents x.columns ps) k d ≡ weighted x.agents x.columns (get_or ps k no_piece)
  piece_of_index k d l = get_or-map (weighted x.agents x.columns) ps k no_piece d l

  -- 17
  met : met_fault x ps ≡ None → (i : ℕ) → i < length x.units
      → sum_by (λ (p : WeightedMatrix). p.weight * slice_index p.matrix i) (weighted_pieces x.agents x.columns ps) ≡ slice_index x.units i
  met e i l =
      let d = cell_of 0 0 in
      let c = get_or (all_cells x.agents x.columns) i (cell_of 0 0) in
      let w = cell_at i (cell_of 0 0) l in
      let look : met_look x ps c.agent c.object ≡ None = quiet_in (met_look x ps) (λ _. x.columns) x.agents e c.agent c.object w.0 w.1 in
      given_at i (cell_of 0 0) l ∙ eqb-true (given_units ps c) (units_of x c) (not_false _ (quiet _ _ look)) ∙ sym (units_at i (cell_of 0 0) l)

  no_met : ((i : ℕ) → i < length x.units → sum_by (λ (p : WeightedMatrix). p.weight * slice_index p.matrix i) (weighted_pieces x.agents x.columns ps) ≡ slice_index x.units i)
      → met_fault x ps ≡ None
  no_met g = silent_in (met_look x ps) (λ _. x.columns) x.agents (λ i a l k.
      let at : get_or (all_cells x.agents x.columns) (i * x.columns + a) (cell_of 0 0) ≡ cell_of i a = cell_in_place x.agents x.columns i a (cell_of 0 0) l k in
      let within = index_of i a l k in
      let equal : given_units ps (cell_of i a) ≡ units_of x (cell_of i a) =
      subst (λ (c : Cell). given_units ps c ≡ units_of x c) at (sym (given_at (i * x.columns + a) (cell_of 0 0) within) ∙ g (i * x.columns + a) within ∙ units_at (i * x.columns + a) (cell_of 0 0) within) in
      silent _ _ (not_from_true _ (eq-eqb (given_units ps (cell_of i a)) (units_of x (cell_of i a)) equal)))

  -- 14 and 15
  sums_same : (gs : List Give) (cells : List Cell) → All (IsCellWithin x.agents x.columns) cells → set_sum (unit_at x.columns (matrix_of x.agents x.columns gs)) cells ≡ set_sum (piece_count gs) cells
  sums_same gs cells inside =
      sum_same_all (IsCellWithin x.agents x.columns) (unit_at x.columns (matrix_of x.agents x.columns gs)) (piece_count gs) cells (at_cell x.agents x.columns gs)
      (recursion_from_All (IsCellWithin x.agents x.columns) cells inside)

  set_inside : (t : ℕ) → t < length f.sets → All (IsCellWithin x.agents x.columns) (cells_in_set f t)
  set_inside t l =
      let at : IsInRange f.agents f.columns (get_or f.sets t no_set) = All-get_or (IsInRange f.agents f.columns) f.sets t no_set l h.inside in
      subst (λ n. All (IsCellWithin n x.columns) (cells_in_set f t)) (sym s.agents) (subst (λ n. All (IsCellWithin f.agents n) (cells_in_set f t)) (sym s.columns) at)

  set_cells_at : (t : ℕ) → t < length f.sets → get_or (cells_of f) t [] ≡ cells_in_set f t
  set_cells_at t l = get_or-map (λ (v : SetValue). v.cells) f.sets t no_set [] l

  piece_rounds : (k : ℕ) → k < length ps → cell_fault_in x ps k ≡ None → ((t : ℕ) → t < length f.sets → set_look f x ps k t ≡ None)
      → Rounds x.columns (cells_of f) x.units x.denominator (matrix_of x.agents x.columns (gives_at ps k))
  piece_rounds k l e g = record {
    shape = length-map {A = Cell} {B = ℕ} (all_cells x.agents x.columns) (piece_count (gives_at ps k)) ∙ cell_count x.agents x.columns ∙ sym m.shape;
    cells = λ i b.
        let c = get_or (all_cells x.agents x.columns) i (cell_of 0 0) in
        let w = cell_at i (cell_of 0 0) b in
        let look : cell_look x ps k c.agent c.object ≡ None = quiet_in (cell_look x ps k) (λ _. x.columns) x.agents e c.agent c.object w.0 w.1 in
        let test : IsRounded (units_of x c) x.denominator (piece_count (gives_at ps k) c) = rounded (units_of x c) x.denominator (piece_count (gives_at ps k) c) (not_false _ (quiet _ _ look)) in
        subst (λ n. IsRounded n x.denominator (slice_index (matrix_of x.agents x.columns (gives_at ps k)) i)) (sym (units_at i (cell_of 0 0) b))
        (subst (λ n. IsRounded (units_of x c) x.denominator n) (sym (at_index x.agents x.columns (gives_at ps k) i (cell_of 0 0) (omega (arith, m.shape)))) test);
    sums = All-from_get_or (λ (cs : List Cell). IsRounded (set_sum (unit_at x.columns x.units) cs) x.denominator (set_sum (unit_at x.columns (matrix_of x.agents x.columns (gives_at ps k))) cs)) (cells_of f) []
        (λ t b.
        let within : t < length f.sets = omega (arith, length-map {A = SetValue} {B = List Cell} f.sets (λ (v : SetValue). v.cells)) in
        let test = rounded (set_sum (units_of x) (cells_in_set f t)) x.denominator (set_sum (piece_count (gives_at ps k)) (cells_in_set f t)) (not_false _ (quiet _ _ (g t within))) in
        let sum = sums_same (gives_at ps k) (cells_in_set f t) (set_inside t within) in
        subst (λ (cs : List Cell). IsRounded (set_sum (unit_at x.columns x.units) cs) x.denominator (set_sum (unit_at x.columns (matrix_of x.agents x.columns (gives_at ps k))) cs)) (sym (set_cells_at t within))
        (subst (λ n. IsRounded (set_sum (unit_at x.columns x.units) (cells_in_set f t)) x.denominator n) (sym sum) test));
  }

  round_cells : (k : ℕ) → k < length ps → Rounds x.columns (cells_of f) x.units x.denominator (matrix_of x.agents x.columns (gives_at ps k)) → cell_fault_in x ps k ≡ None
  round_cells k l r = silent_in (cell_look x ps k) (λ _. x.columns) x.agents (λ i a b c.
      let at : get_or (all_cells x.agents x.columns) (i * x.columns + a) (cell_of 0 0) ≡ cell_of i a = cell_in_place x.agents x.columns i a (cell_of 0 0) b c in
      let within = index_of i a b c in
      let units : slice_index x.units (i * x.columns + a) ≡ units_of x (cell_of i a) = units_at (i * x.columns + a) (cell_of 0 0) within ∙ ap (units_of x) at in
      let count : slice_index (matrix_of x.agents x.columns (gives_at ps k)) (i * x.columns + a) ≡ piece_count (gives_at ps k) (cell_of i a) =
      at_index x.agents x.columns (gives_at ps k) (i * x.columns + a) (cell_of 0 0) (omega (arith, m.shape)) ∙ ap (piece_count (gives_at ps k)) at in
      let here : IsRounded (units_of x (cell_of i a)) x.denominator (piece_count (gives_at ps k) (cell_of i a)) =
      subst (λ n. IsRounded n x.denominator (piece_count (gives_at ps k) (cell_of i a))) units (subst (λ n. IsRounded (slice_index x.units (i * x.columns + a)) x.denominator n) count (r.cells (i * x.columns + a) within)) in
      silent _ _ (not_from_true _ (test_rounded (units_of x (cell_of i a)) x.denominator (piece_count (gives_at ps k) (cell_of i a)) here)))

  round_sets : (k t : ℕ) → t < length f.sets → Rounds x.columns (cells_of f) x.units x.denominator (matrix_of x.agents x.columns (gives_at ps k)) → set_look f x ps k t ≡ None
  round_sets k t b r =
      let within : t < length (cells_of f) = omega (arith, length-map {A = SetValue} {B = List Cell} f.sets (λ (v : SetValue). v.cells)) in
      let at = All-get_or (λ (cs : List Cell). IsRounded (set_sum (unit_at x.columns x.units) cs) x.denominator (set_sum (unit_at x.columns (matrix_of x.agents x.columns (gives_at ps k))) cs)) (cells_of f) t [] within r.sums in
      let here : IsRounded (set_sum (units_of x) (cells_in_set f t)) x.denominator (set_sum (unit_at x.columns (matrix_of x.agents x.columns (gives_at ps k))) (cells_in_set f t)) =
      subst (λ (cs : List Cell). IsRounded (set_sum (unit_at x.columns x.units) cs) x.denominator (set_sum (unit_at x.columns (matrix_of x.agents x.columns (gives_at ps k))) cs)) (set_cells_at t b) at in
      let test : IsRounded (set_sum (units_of x) (cells_in_set f t)) x.denominator (set_sum (piece_count (gives_at ps k)) (cells_in_set f t)) =
      subst (λ n. IsRounded (set_sum (units_of x) (cells_in_set f t)) x.denominator n) (sums_same (gives_at ps k) (cells_in_set f t) (set_inside t b)) here in
      silent _ _ (not_from_true _ (test_rounded (set_sum (units_of x) (cells_in_set f t)) x.denominator (set_sum (piece_count (gives_at ps k)) (cells_in_set f t)) test))

  -- 16
  matrix_same : (gs hs : List Give) → matrix_of x.agents x.columns gs ≡ matrix_of x.agents x.columns hs → (c : Cell) → IsCellWithin x.agents x.columns c → piece_count gs c ≡ piece_count hs c
  matrix_same gs hs e c w = sym (at_cell x.agents x.columns gs c w) ∙ ap (λ (ms : List ℕ). unit_at x.columns ms c) e ∙ at_cell x.agents x.columns hs c w

  distinct : same_fault ps ≡ None → AllPairs (λ (a b : WeightedMatrix). a.matrix ≢ b.matrix) (weighted_pieces x.agents x.columns ps)
  distinct e i j d l k = λ equal.
      let many : length (weighted_pieces x.agents x.columns ps) ≡ length ps = length-map {A = PieceValue} {B = WeightedMatrix} ps (weighted x.agents x.columns) in
      let first = ap (λ (p : WeightedMatrix). p.matrix) (piece_of_index i d (omega (arith, many))) in
      let second = ap (λ (p : WeightedMatrix). p.matrix) (piece_of_index j d (omega (arith, many))) in
      let gives : gives_at ps i ≡ gives_at ps j =
      canonical x.agents x.columns (gives_at ps i) (gives_at ps j) (lawful_at x ps i q (omega (arith, many))) (lawful_at x ps j q (omega (arith, many)))
      (matrix_same (gives_at ps i) (gives_at ps j) (sym first ∙ equal ∙ second)) in
      both_ways (pointwise same_give (gives_at ps i) (gives_at ps j)) (quiet _ _ (same_quiet ps e i j l (omega (arith, many)))) ((gives_decide (gives_at ps i) (gives_at ps j)).1 gives)

  no_same : AllPairs (λ (a b : WeightedMatrix). a.matrix ≢ b.matrix) (weighted_pieces x.agents x.columns ps) → same_fault ps ≡ None
  no_same g = same_silent ps (λ a b l k. silent _ _ (false_by _ (λ t.
      let many : length (weighted_pieces x.agents x.columns ps) ≡ length ps = length-map {A = PieceValue} {B = WeightedMatrix} ps (weighted x.agents x.columns) in
      let gives : gives_at ps a ≡ gives_at ps b = (gives_decide (gives_at ps a) (gives_at ps b)).0 t in
      let d : WeightedMatrix = record { weight = 0; matrix = [] } in
      let first = ap (λ (p : WeightedMatrix). p.matrix) (piece_of_index a d (omega arith)) in
      let second = ap (λ (p : WeightedMatrix). p.matrix) (piece_of_index b d (omega arith)) in
      g a b d l (omega (arith, many)) (first ∙ ap (matrix_of x.agents x.columns) gives ∙ sym second))))

  pub pieces_pass : first_piece_fault f x ps ≡ None → Decomposes x.columns (cells_of f) x.units x.denominator (weighted_pieces x.agents x.columns ps)
  pieces_pass e =
      let (a, e1) = both-pass (many_fault f x ps) _ e in
      let (b, e2) = both-pass (cell_fault x ps) _ e1 in
      let (c, e3) = both-pass (set_fault f x ps) _ e2 in
      let (d, g) = both-pass (same_fault ps) (met_fault x ps) e3 in
      record {
        weights = All-map (λ (p : WeightedMatrix). 1 ≤ p.weight) (weighted x.agents x.columns) ps q.weights;
        adds_up = weight_of;
        cells = met g;
        rounded = All-map (λ (p : WeightedMatrix). Rounds x.columns (cells_of f) x.units x.denominator p.matrix) (weighted x.agents x.columns) ps
            (All-from_get_or (λ (p : PieceValue). Rounds x.columns (cells_of f) x.units x.denominator (matrix_of x.agents x.columns p.gives)) ps no_piece
            (λ k l. piece_rounds k l (quiet_at (cell_fault_in x ps) (length ps) b k l) (λ t within. quiet_in (set_look f x ps) (λ _. length f.sets) (length ps) c k t l within)));
        distinct = distinct d;
        few =
            let many : length (weighted_pieces x.agents x.columns ps) ≡ length ps = length-map {A = PieceValue} {B = WeightedMatrix} ps (weighted x.agents x.columns) in
            let bound = ltb-false (piece_bound f x) (length ps) (quiet _ _ a) in
            omega (arith, many, bound);
      }

  pub pass_pieces : Decomposes x.columns (cells_of f) x.units x.denominator (weighted_pieces x.agents x.columns ps) → first_piece_fault f x ps ≡ None
  pass_pieces r =
      let many : length (weighted_pieces x.agents x.columns ps) ≡ length ps = length-map {A = PieceValue} {B = WeightedMatrix} ps (weighted x.agents x.columns) in
      neither (many_fault f x ps) _ (silent _ _ (le-ltb (piece_bound f x) (length ps) (omega (arith, many, r.few))))
      (neither (cell_fault x ps) _ (silent_at (cell_fault_in x ps) (length ps) (λ k l. round_cells k l (each k l)))
      (neither (set_fault f x ps) _ (silent_in (set_look f x ps) (λ _. length f.sets) (length ps) (λ k t l b. round_sets k t b (each k l)))
      (neither (same_fault ps) (met_fault x ps) (no_same r.distinct) (no_met r.cells))))
    where
      each : (k : ℕ) → k < length ps → Rounds x.columns (cells_of f) x.units x.denominator (matrix_of x.agents x.columns (gives_at ps k))
      each k l =
          let many : length (weighted_pieces x.agents x.columns ps) ≡ length ps = length-map {A = PieceValue} {B = WeightedMatrix} ps (weighted x.agents x.columns) in
          let d : WeightedMatrix = record { weight = 0; matrix = [] } in
          let at = All-get_or (λ (p : WeightedMatrix). Rounds x.columns (cells_of f) x.units x.denominator p.matrix) (weighted_pieces x.agents x.columns ps) k d (omega (arith, many)) r.rounded in
          subst (λ (p : WeightedMatrix). Rounds x.columns (cells_of f) x.units x.denominator p.matrix) (piece_of_index k d l) at

  pub pieces_verdict : (v : Verdict) → v ≡ verdict_of (first_piece_fault f x ps) → (v ≡ Pass) ↔ Decomposes x.columns (cells_of f) x.units x.denominator (weighted_pieces x.agents x.columns ps)
  pieces_verdict v e = (λ t. pieces_pass (passes (first_piece_fault f x ps) (sym e ∙ t)), λ w. e ∙ ap verdict_of (pass_pieces w))

  -- and then the named units of a cell are its units
  pub pieces_named : (v : Verdict) → v ≡ verdict_of (first_piece_fault f x ps) → v ≡ Pass → (c : Cell) → IsCellWithin x.agents x.columns c → named_units ps c ≡ units_of x c
  pieces_named v e t c w = named_is_unit x.agents x.columns x.denominator (cells_of f) x.units ps c m.shape ((pieces_verdict v e).0 t) w
