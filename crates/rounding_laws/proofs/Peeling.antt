-- Pieces that are taken off one by one.
use Rattle.std.proofs.Common.{◌≡◌, ℕ, ◌+◌, ◌*◌, ◌≤◌, List, [], ◌∷◌, ◌++◌, map, length, arith, refl, sym, ap, ◌∙◌, subst, All, length-append}
use Rattle.std.specs.Prelude.{◌≢◌, slice_index}
use Rattle.std.proofs.lemmas.List.Sums.{sum_by_push}
use Rattle.std.proofs.lemmas.List.Elements.{All-nil, All-push}
use Rattle.std.proofs.lemmas.List.Quantifiers.{all_pairs_push}
use Rattle.definitions.specs.declared.Cell.{Cell}
use Rattle.definitions.specs.Rounding.{Rounds, SideSet}
use Rattle.definitions.specs.Peelings.{PeelerValue, sets_of, IsStep, Peeled}
use Rattle.definitions.specs.Pieces.{WeightedMatrix, Decomposes}

-- nothing is taken off yet
pub peeled_start : (columns total : ℕ) (sets : List (List Cell)) (x : List ℕ) → Peeled columns sets x total x total []
peeled_start columns total sets x = record {
  shape = refl;
  weights = All-nil (λ (p : WeightedMatrix). 1 ≤ p.weight);
  given = omega arith;
  cells = λ i h. omega arith;
  rounded = All-nil (λ (p : WeightedMatrix). Rounds columns sets x total p.matrix);
  distinct = λ i j d l h. absurd (omega (arith, h));
  ahead = λ one m rounds. (rounds, All-nil (λ (p : WeightedMatrix). p.matrix ≢ m));
  few = λ one. omega arith;
  last = omega arith;
}

-- a piece as its weight and its matrix
abbrev pub piece : ℕ → List ℕ → WeightedMatrix
piece w m = record { weight = w; matrix = m }

-- one more piece is taken off; the sets and columns are those of the old state
pub peeled_step : (old new : PeelerValue) (w total : ℕ) (m x : List ℕ) (ps : List WeightedMatrix) → IsStep old new w m
    → Peeled old.columns (sets_of old) x total old.rest old.left ps
    → Peeled old.columns (sets_of old) x total new.rest new.left (ps ++ piece w m ∷ [])
peeled_step old new w total m x ps step peeled =
    let some : 1 ≤ old.left = omega (arith, step.weight, step.left) in
    let columns : ℕ = old.columns in
    let sets : List (List Cell) = sets_of old in
    let here = peeled.ahead some m step.rounds in
    let many : length (ps ++ piece w m ∷ []) ≡ length ps + 1 = length-append ps (piece w m ∷ []) in
    record {
      shape = step.same.3 ∙ peeled.shape;
      weights = All-push (λ (p : WeightedMatrix). 1 ≤ p.weight) ps (piece w m) peeled.weights step.weight;
      given = omega (arith, sum_by_push (λ (p : WeightedMatrix). p.weight) ps (piece w m), peeled.given, step.left);
      cells = λ i h. omega (arith, sum_by_push (λ (p : WeightedMatrix). p.weight * slice_index p.matrix i) ps (piece w m), peeled.cells i h, step.rest i (omega (arith, h, peeled.shape)));
      rounded = All-push (λ (p : WeightedMatrix). Rounds columns sets x total p.matrix) ps (piece w m) peeled.rounded here.0;
      distinct = all_pairs_push (λ (p q : WeightedMatrix). p.matrix ≢ q.matrix) ps (piece w m) peeled.distinct here.1;
      ahead = λ one m' rounds.
          let next = step.ahead one m' rounds in
          let before = peeled.ahead some m' next.0 in
          (before.0, All-push (λ (p : WeightedMatrix). p.matrix ≢ m') ps (piece w m) before.1 (λ e. next.1 (sym e)));
      few = λ one. omega (arith, many, peeled.few some, step.fewer one);
      last = omega (arith, many, peeled.few some);
    }

sets_kept : (old new : PeelerValue) → new.sets ≡ old.sets → sets_of old ≡ sets_of new
sets_kept old new e = ap (λ (s : List SideSet). map (λ (q : SideSet). q.cells) s) (sym e)

-- the same with those of the new state, which are equal
pub peeled_step_on : (old new : PeelerValue) (w total : ℕ) (m x : List ℕ) (ps : List WeightedMatrix) → IsStep old new w m
    → Peeled old.columns (sets_of old) x total old.rest old.left ps
    → Peeled new.columns (sets_of new) x total new.rest new.left (ps ++ piece w m ∷ [])
peeled_step_on old new w total m x ps step peeled =
    subst (λ (c : ℕ). Peeled c (sets_of new) x total new.rest new.left (ps ++ piece w m ∷ [])) (sym step.same.2)
    (subst (λ (s : List (List Cell)). Peeled old.columns s x total new.rest new.left (ps ++ piece w m ∷ [])) (sets_kept old new step.same.0)
    (peeled_step old new w total m x ps step peeled))

-- where nothing is left, the pieces decompose the matrix
pub peeled_end : (columns total : ℕ) (sets : List (List Cell)) (x y : List ℕ) (ps : List WeightedMatrix) → Peeled columns sets x total y 0 ps
    → All (λ u. u ≡ 0) y → Decomposes columns sets x total ps
peeled_end columns total sets x y ps peeled none = record {
  weights = peeled.weights;
  adds_up = omega (arith, peeled.given);
  cells = λ i h. omega (arith, peeled.cells i h, none i 0 (omega (arith, h, peeled.shape)));
  rounded = peeled.rounded;
  distinct = peeled.distinct;
  few = peeled.last;
}
