-- Pieces for the guarded family, and that no two of them differ much for one agent.
use Rattle.std.proofs.Common.{◌≡◌, ℕ, suc, zero, ◌+◌, ◌*◌, ◌<◌, ◌≤◌, ◌∙◌, List, [], ◌∷◌, map, length, get_or, Some, refl, sym, ap, subst, arith, All, ℤ, pos, ◌+ℤ◌, ◌*ℤ◌, ◌≤ℤ◌}
use Rattle.std.specs.Prelude.{slice_get, option_map}
use Rattle.std.specs.List.{AllByRecursion, zip}
use Rattle.std.proofs.lemmas.Option.{slice_get-map}
use Rattle.std.proofs.lemmas.List.Elements.{recursion_from_All}
use Rattle.definitions.specs.declared.Cell.{Cell}
use Rattle.definitions.specs.declared.Give.{Give}
use Rattle.definitions.specs.Sets.{cell_of, cell_index, unit_at, units_of, cells_of, FamilyValue, ScaledValue, IsQuotaSet, IsBihierarchy}
use Rattle.definitions.specs.Values.{ProblemValue, IsProblem, PieceValue, column_count, list_at}
use Rattle.definitions.specs.Assignment.{Held, worth_sum}
use Rattle.definitions.specs.Certificate.{Falls}
use Rattle.definitions.specs.Rounding.{Rounds}
use Rattle.definitions.specs.Pieces.{WeightedMatrix, Decomposes, AreGives, piece_count, matrix_of, weighted, weighted_pieces}
use Rattle.definitions.specs.Fairness.{guarded_family}
use Rattle.definitions.specs.Peelings.{PeelerValue, sets_of}
use Rattle.definitions.proofs.Lists.{each_at}
use Rattle.definitions.proofs.Families.{apart_of_bihierarchy, number_of_set}
use Rattle.definitions.proofs.Problems.{list_lawful}
use Rattle.definitions.proofs.Sums.{unit_at_within}
use Rattle.certificate_laws.specs.Guarded.{places_sum, fall}
use Rattle.certificate_laws.proofs.GuardBound.{sums_near}
use Rattle.rounding_laws.proofs.Places.{matrix_at}
use Rattle.bihierarchy.specs.Crossing.{IsLeastCrossing}
use Rattle.peeling.specs.Peelers.{IsStart, ArePiecesOf}
use Rattle.peeling.proofs.Given.{start_sets}
use Rattle.guard_sets.specs.Guard.{IsAssigned, IsGuardedLottery, SumsAreNear}

-- sums over places whose units are equal
same_places : (i : ℕ) (x y : Cell → ℕ) (list : List ℕ) (numbers : List ℤ) → AllByRecursion (λ a. x (cell_of i a) ≡ y (cell_of i a)) list
    → worth_sum (map (λ (w : ℕ × ℤ). record { worth = w.1; units = x (cell_of i w.0) }) (zip list numbers)) ≡ worth_sum (map (λ (w : ℕ × ℤ). record { worth = w.1; units = y (cell_of i w.0) }) (zip list numbers))
same_places i x y [] numbers h = refl
same_places i x y (a ∷ list) [] h = refl
same_places i x y (a ∷ list) (w ∷ numbers) h =
    ap (λ n. worth_sum (record { worth = w; units = n } ∷ map (λ (w : ℕ × ℤ). record { worth = w.1; units = x (cell_of i w.0) }) (zip list numbers))) h.0
    ∙ ap (λ z. (w *ℤ pos (y (cell_of i a))) +ℤ z) (same_places i x y list numbers h.1)

module _ (p : ProblemValue) (x : ScaledValue) (h : IsProblem p) (given : IsAssigned p x) (pieces : List PieceValue) (lottery : IsGuardedLottery p x pieces) where
  -- a piece rounds the matrix
  piece_rounds : (j : ℕ) (one : PieceValue) → slice_get pieces j ≡ Some one
      → Rounds (column_count p) (cells_of (guarded_family p x)) x.units x.denominator (matrix_of (length p.agents) (column_count p) one.gives)
  piece_rounds j one e =
      each_at (λ (w : WeightedMatrix). Rounds (column_count p) (cells_of (guarded_family p x)) x.units x.denominator w.matrix) (weighted_pieces (length p.agents) (column_count p) pieces) j
      (weighted (length p.agents) (column_count p) one)
      (recursion_from_All (λ (w : WeightedMatrix). Rounds (column_count p) (cells_of (guarded_family p x)) x.units x.denominator w.matrix) (weighted_pieces (length p.agents) (column_count p) pieces) lottery.decompose.rounded)
      (slice_get-map (weighted (length p.agents) (column_count p)) pieces j ∙ ap (option_map (weighted (length p.agents) (column_count p))) e)

  -- what its matrix has at the places of a list is what it gives there
  counts : (i : ℕ) (gives : List Give) → i < length p.agents
      → AllByRecursion (λ a. unit_at (column_count p) (matrix_of (length p.agents) (column_count p) gives) (cell_of i a) ≡ piece_count gives (cell_of i a)) (list_at p i)
  counts i gives l = recursion_from_All (λ a. unit_at (column_count p) (matrix_of (length p.agents) (column_count p) gives) (cell_of i a) ≡ piece_count gives (cell_of i a)) (list_at p i)
      (λ k d m.
      let le = (list_lawful p i h l).known k d m in
      unit_at_within (column_count p) (matrix_of (length p.agents) (column_count p) gives) (cell_of i (get_or (list_at p i) k d)) (omega (arith, le))
      ∙ matrix_at (length p.agents) (column_count p) gives i (get_or (list_at p i) k d) l (omega (arith, le)))

  -- so no two pieces differ much for one agent
  pub pieces_near : SumsAreNear p pieces
  pieces_near i numbers j k one other l many fall e f =
      let bound = sums_near p x (matrix_of (length p.agents) (column_count p) one.gives) (matrix_of (length p.agents) (column_count p) other.gives) i numbers h given.columns given.assignment
      (piece_rounds j one e) (piece_rounds k other f) l many fall in
      let first = same_places i (unit_at (column_count p) (matrix_of (length p.agents) (column_count p) one.gives)) (piece_count one.gives) (list_at p i) numbers (counts i one.gives l) in
      let second = same_places i (unit_at (column_count p) (matrix_of (length p.agents) (column_count p) other.gives)) (piece_count other.gives) (list_at p i) numbers (counts i other.gives l) in
      rw (first, second) at bound

-- where both sides are hierarchies no least pair crosses
pub apart_has_no_pair : (f : FamilyValue) (first second : ℕ) → All IsQuotaSet f.sets → IsBihierarchy f → IsLeastCrossing f first second → ⊥
apart_has_no_pair f first second lawful both h =
    apart_of_bihierarchy f lawful both first second (number_of_set f first (h.known, omega (arith, h.order, h.within))) (number_of_set f second (omega (arith, h.known, h.order), h.within)) h.sides h.cross

-- what comes of a decomposition for the guarded family
pub lottery_of : (p : ProblemValue) (x : ScaledValue) (f : FamilyValue) (v : PeelerValue) (pieces : List PieceValue) → IsProblem p → f ≡ guarded_family p x → IsStart f x v → ArePiecesOf v pieces
    → IsGuardedLottery p x pieces
lottery_of p x f v pieces h e start made =
    let agents : v.agents ≡ length p.agents = start.agents ∙ ap (λ (g : FamilyValue). g.agents) e ∙ h.family_agents in
    let columns : v.columns ≡ column_count p = start.columns ∙ ap (λ (g : FamilyValue). g.columns) e ∙ h.family_columns in
    let sets : sets_of v ≡ cells_of (guarded_family p x) = start_sets f x v start ∙ ap cells_of e in
    record {
      decompose =
          subst (λ n. Decomposes (column_count p) (cells_of (guarded_family p x)) x.units x.denominator (weighted_pieces n (column_count p) pieces)) agents
          (subst (λ n. Decomposes n (cells_of (guarded_family p x)) x.units x.denominator (weighted_pieces v.agents n pieces)) columns
          (subst (λ (ss : List (List Cell)). Decomposes v.columns ss x.units x.denominator (weighted_pieces v.agents v.columns pieces)) sets
          (subst (λ (u : List ℕ). Decomposes v.columns (sets_of v) u x.denominator (weighted_pieces v.agents v.columns pieces)) start.rest
          (subst (λ d. Decomposes v.columns (sets_of v) v.rest d (weighted_pieces v.agents v.columns pieces)) start.left made.decompose))));
      weights = made.weights;
      adds_up = made.adds_up ∙ start.left;
      gives =
          subst (λ n. All (λ (w : PieceValue). AreGives n (column_count p) w.gives) pieces) agents
          (subst (λ n. All (λ (w : PieceValue). AreGives v.agents n w.gives) pieces) columns made.gives);
    }
