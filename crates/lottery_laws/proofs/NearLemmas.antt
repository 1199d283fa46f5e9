-- Two pieces of a lottery with pieces for the guarded family: what they give an agent is worth nearly as much.
use Rattle.std.proofs.Common.{◌≡◌, ◌∙◌, ◌<◌, ◌≤◌, ◌∷◌, [], ℕ, ℤ, List, Some, ap, arith, get_or, length, map, subst, sym, refl}
use Rattle.std.specs.Prelude.{slice_get, ◌≤ℤ◌, ◌+ℤ◌}
use Rattle.std.specs.List.{AllByRecursion, zip}
use Rattle.std.proofs.lemmas.List.{get_or-map, length-map}
use Rattle.std.proofs.lemmas.List.Elements.{recursion_from_All}
use Rattle.std.proofs.lemmas.Option.{get_or_from_slice_get, slice_get_within, unwrap_or-slice_get}
use Rattle.certificate_laws.specs.Guarded.{fall, places_sum}
use Rattle.certificate_laws.proofs.GuardBound.{sums_near}
use Rattle.definitions.specs.declared.Cell.{Cell}
use Rattle.definitions.specs.declared.Give.{Give}
use Rattle.definitions.specs.Assignment.{Held, worth_sum}
use Rattle.definitions.specs.Certificate.{Falls}
use Rattle.definitions.specs.Fairness.{guarded_family}
use Rattle.definitions.specs.Lotteries.{LotteryValue, SolvesFor, matrices_of}
use Rattle.definitions.specs.Pieces.{WeightedMatrix, matrix_of, piece_count, weighted}
use Rattle.definitions.specs.Rounding.{Rounds}
use Rattle.definitions.specs.Sets.{FamilyValue, cell_of, cells_of, unit_at}
use Rattle.definitions.specs.Values.{PieceValue, ProblemValue, column_count, list_at, worths_of}
use Rattle.definitions.proofs.Problems.{list_lawful}
use Rattle.definitions.proofs.Sums.{unit_at_within}
use Rattle.rounding_laws.proofs.Places.{matrix_at}
use Rattle.lottery_laws.specs.Near.{IsSoundGuarded, WorthsAreNear}
use Rattle.lottery_laws.specs.Sound.{HasSetsOf, MeetsProblem}
use Rattle.lottery_laws.proofs.SoundLemmas.{solution_sound, sound_for_meets, tall, wide}

-- a sum over places asks of the units only those of the agent's cells of these columns
same_units : (i : ℕ) (x y : Cell → ℕ) (list : List ℕ) (numbers : List ℤ) → AllByRecursion (λ a. x (cell_of i a) ≡ y (cell_of i a)) list
    → map {B = Held} (λ w. record { worth = w.1; units = x (cell_of i w.0) }) (zip list numbers) ≡ map (λ w. record { worth = w.1; units = y (cell_of i w.0) }) (zip list numbers)
same_units i x y [] numbers each = refl
same_units i x y (a ∷ list) [] each = refl
same_units i x y (a ∷ list) (n ∷ numbers) each =
    let rest : List Held = map (λ w. record { worth = w.1; units = x (cell_of i w.0) }) (zip list numbers) in
    let held : ℕ → Held = λ u. record { worth = n; units = u } in
    ap (λ u. held u ∷ rest) each.0 ∙ ap (λ (hs : List Held). held (y (cell_of i a)) ∷ hs) (same_units i x y list numbers each.1)

-- the guarded family has the sets of the problem's family, and then others
pub guarded_has : (p : ProblemValue) (l : LotteryValue) → HasSetsOf p (guarded_family p l.shares)
guarded_has p l = (_, refl)

module _ (p : ProblemValue) (l : LotteryValue) (s : IsSoundGuarded p l) where
  abbrev f : FamilyValue
  f = guarded_family p l.shares

  across : l.shares.columns ≡ column_count p
  across = wide f p l s (guarded_has p l)

  down : l.shares.agents ≡ length p.agents
  down = tall f p l s (guarded_has p l)

  -- the matrix of what a piece gives
  abbrev matrix : PieceValue → List ℕ
  matrix piece = matrix_of l.shares.agents l.shares.columns piece.gives

  piece_rounds : (j : ℕ) (piece : PieceValue) → slice_get l.pieces j ≡ Some piece → Rounds (column_count p) (cells_of f) l.shares.units l.shares.denominator (matrix piece)
  piece_rounds j piece e =
      let none : WeightedMatrix = weighted l.shares.agents l.shares.columns piece in
      let inside : j < length l.pieces = slice_get_within l.pieces j piece e in
      let at : get_or (matrices_of l) j none ≡ none =
      get_or-map (weighted l.shares.agents l.shares.columns) l.pieces j piece none inside ∙ ap (weighted l.shares.agents l.shares.columns) (get_or_from_slice_get l.pieces j piece piece e) in
      subst (λ (q : WeightedMatrix). Rounds (column_count p) (cells_of f) l.shares.units l.shares.denominator q.matrix) at
      (s.pieces.rounded j none (omega (arith, inside, length-map l.pieces (weighted l.shares.agents l.shares.columns))))

  -- a cell of the matrix has what the piece gives of it
  cell_given : (i a : ℕ) (gives : List Give) → i < length p.agents → a < column_count p
      → unit_at (column_count p) (matrix_of l.shares.agents l.shares.columns gives) (cell_of i a) ≡ piece_count gives (cell_of i a)
  cell_given i a gives row column =
      let wide_enough : a < l.shares.columns = omega (arith, column, across) in
      subst (λ n. unit_at n (matrix_of l.shares.agents l.shares.columns gives) (cell_of i a) ≡ piece_count gives (cell_of i a)) across
      (unit_at_within l.shares.columns (matrix_of l.shares.agents l.shares.columns gives) (cell_of i a) wide_enough
      ∙ matrix_at l.shares.agents l.shares.columns gives i a (omega (arith, row, down)) wide_enough)

  each_given : (i : ℕ) (gives : List Give) (list : List ℕ) → i < length p.agents → AllByRecursion (λ a. a ≤ length p.objects) list
      → AllByRecursion (λ a. unit_at (column_count p) (matrix_of l.shares.agents l.shares.columns gives) (cell_of i a) ≡ piece_count gives (cell_of i a)) list
  each_given i gives [] row within = tt
  each_given i gives (a ∷ list) row within = (cell_given i a gives row (omega (arith, within.0)), each_given i gives list row within.1)

  sum_given : (i : ℕ) (numbers : List ℤ) (piece : PieceValue) → i < length p.agents
      → places_sum p i numbers (unit_at (column_count p) (matrix piece)) ≡ places_sum p i numbers (piece_count piece.gives)
  sum_given i numbers piece row =
      ap worth_sum (same_units i (unit_at (column_count p) (matrix piece)) (piece_count piece.gives) (list_at p i) numbers
      (each_given i piece.gives (list_at p i) row (recursion_from_All (λ a. a ≤ length p.objects) (list_at p i) (list_lawful p i s.problem row).known)))

  listed : (i : ℕ) → i < length p.agents → i < length p.lists
  listed i row = omega (arith, row, s.problem.lists_many)

  falls : (i : ℕ) → i < length p.agents → Falls (worths_of s.prices i)
  falls i row =
      subst Falls (sym (unwrap_or-slice_get s.prices.worth i []))
      (s.certified.fall i [] (omega (arith, listed i row, s.certified.shape.lists)))

  pub pieces_near : WorthsAreNear p s.prices l.pieces
  pieces_near i j k one other row first second =
      let numbers : List ℤ = worths_of s.prices i in
      let near = sums_near p l.shares (matrix one) (matrix other) i numbers s.problem across s.assigned (piece_rounds j one first) (piece_rounds k other second) row
      (s.certified.shape.places i (listed i row)) (falls i row) in
      subst (λ (z : ℤ). z ≤ℤ (places_sum p i numbers (piece_count other.gives) +ℤ fall numbers)) (sum_given i numbers one row)
      (subst (λ (z : ℤ). places_sum p i numbers (unit_at (column_count p) (matrix one)) ≤ℤ (z +ℤ fall numbers)) (sum_given i numbers other row) near)

  -- and it meets its problem
  pub guarded_meets : MeetsProblem p s.prices l
  guarded_meets = sound_for_meets f p l s (guarded_has p l)

-- the same of a lottery that solves the problem
pub solution_near : (p : ProblemValue) (l : LotteryValue) (s : SolvesFor (guarded_family p l.shares) p l) → WorthsAreNear p s.prices l.pieces
unfolding solution_sound
solution_near p l s = pieces_near p l (solution_sound (guarded_family p l.shares) p l s)
