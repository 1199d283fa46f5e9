-- What rounds the remainder rounds the matrix, and is another matrix than the piece.
use Rattle.std.proofs.Common.{◌≡◌, ℕ, ◌≤◌, List, get_or, Some, arith, inl, inr, subst, ◌∙◌}
use Rattle.std.specs.Prelude.{◌≢◌, slice_get}
use Rattle.std.proofs.lemmas.Option.{slice_get_within, get_or_from_slice_get}
use Rattle.definitions.specs.declared.Cell.{Cell}
use Rattle.definitions.specs.Rounding.{Rounds, IsRounded}
use Rattle.rounding_laws.specs.Remainders.{IsGreatestTake, IsTight}
use Rattle.rounding_laws.proofs.Edges.{IsTakenAt, keeps_rounding, rounds_no_more}
use Rattle.rounding_laws.proofs.Taken.{sum_at, taken_cell, taken_set, tight_of_greatest}

-- the edge of a set that has this number
pub taken_found : (columns d w d' : ℕ) (sets : List (List Cell)) (y m y' : List ℕ) → IsGreatestTake columns sets y d m w y' d' → 1 ≤ d'
    → (k : ℕ) (s : List Cell) → slice_get sets k ≡ Some s → IsTakenAt d w d' (sum_at columns y s) (sum_at columns m s) (sum_at columns y' s)
taken_found columns d w d' sets y m y' t one k s found =
    subst (λ (c : List Cell). IsTakenAt d w d' (sum_at columns y c) (sum_at columns m c) (sum_at columns y' c)) (get_or_from_slice_get sets k s s found) (taken_set columns d w d' sets y m y' t one k s (slice_get_within sets k s found))

-- what rounds the remainder rounds the matrix
pub remainder_rounds : (columns d w d' : ℕ) (sets : List (List Cell)) (y m y' m' : List ℕ) → IsGreatestTake columns sets y d m w y' d' → 1 ≤ d'
    → Rounds columns sets y' d' m' → Rounds columns sets y d m'
remainder_rounds columns d w d' sets y m y' m' t one rounds = record {
  shape = rounds.shape ∙ t.shape;
  cells = λ i h. keeps_rounding d w d' (get_or y i 0) (get_or m i 0) (get_or y' i 0) (get_or m' i 0) (taken_cell columns d w d' sets y m y' t one i h) (rounds.cells i (omega (arith, h, t.shape)));
  sums = λ k s h. keeps_rounding d w d' (sum_at columns y (get_or sets k s)) (sum_at columns m (get_or sets k s)) (sum_at columns y' (get_or sets k s)) (sum_at columns m' (get_or sets k s))
      (taken_set columns d w d' sets y m y' t one k s h) (rounds.sums k s h);
}

piece_rounds_no_more : (columns d w d' : ℕ) (sets : List (List Cell)) (y m y' : List ℕ) → IsGreatestTake columns sets y d m w y' d' → 1 ≤ d'
    → IsTight columns sets y d m w → Rounds columns sets y' d' m → ⊥
piece_rounds_no_more columns d w d' sets y m y' t one (inl tight) rounds =
    rounds_no_more d w d' (get_or y tight.0 0) (get_or m tight.0 0) (get_or y' tight.0 0) (taken_cell columns d w d' sets y m y' t one tight.0 tight.1)
    (omega (arith, tight.2, t.left)) (rounds.cells tight.0 (omega (arith, tight.1, t.shape)))
piece_rounds_no_more columns d w d' sets y m y' t one (inr tight) rounds =
    let k : ℕ = tight.0 in
    let s : List Cell = tight.1 in
    let at : get_or sets k s ≡ s = get_or_from_slice_get sets k s s tight.2 in
    let rounded : IsRounded (sum_at columns y' s) d' (sum_at columns m s) =
    subst (λ (c : List Cell). IsRounded (sum_at columns y' c) d' (sum_at columns m c)) at (rounds.sums k s (slice_get_within sets k s tight.2)) in
    rounds_no_more d w d' (sum_at columns y s) (sum_at columns m s) (sum_at columns y' s) (taken_found columns d w d' sets y m y' t one k s tight.2) (omega (arith, tight.3, t.left)) rounded

-- and is another matrix than the piece
pub remainder_rounds_whole : (columns d w d' : ℕ) (sets : List (List Cell)) (y m y' m' : List ℕ) → IsGreatestTake columns sets y d m w y' d' → 1 ≤ d'
    → Rounds columns sets y' d' m' → Rounds columns sets y d m' × (m' ≢ m)
remainder_rounds_whole columns d w d' sets y m y' m' t one rounds = (
  remainder_rounds columns d w d' sets y m y' m' t one rounds,
  λ e. piece_rounds_no_more columns d w d' sets y m y' t one (tight_of_greatest columns d w d' sets y m y' t one) (subst (λ (x : List ℕ). Rounds columns sets y' d' x) e rounds),
)
