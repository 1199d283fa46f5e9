-- Lists of pieces that are taken off one by one. The project's own.
use Rattle.std.specs.Prelude.{◌≡◌, ℕ, List, [], ◌∷◌, ◌++◌, All}
use Rattle.definitions.specs.declared.Cell.{Cell}
use Rattle.definitions.specs.Peelings.{PeelerValue, sets_of, IsStep, Peeled}
use Rattle.definitions.specs.Pieces.{WeightedMatrix, Decomposes}

-- nothing is taken off yet
abbrev pub PeelingStarts : Type 0
PeelingStarts = (columns total : ℕ) (sets : List (List Cell)) (x : List ℕ)
    → Peeled columns sets x total x total []

-- one more piece is taken off
abbrev pub PeelingSteps : Type 0
PeelingSteps = (old new : PeelerValue) (w total : ℕ) (m x : List ℕ) (ps : List WeightedMatrix)
    → IsStep old new w m → Peeled old.columns (sets_of old) x total old.rest old.left ps
    → Peeled new.columns (sets_of new) x total new.rest new.left
    (ps ++ (record { weight = w; matrix = m }) ∷ [])

-- where nothing is left, the pieces decompose the matrix
abbrev pub PeelingEnds : Type 0
PeelingEnds = (columns total : ℕ) (sets : List (List Cell)) (x y : List ℕ) (ps : List WeightedMatrix)
    → Peeled columns sets x total y 0 ps → All (λ u. u ≡ 0) y → Decomposes columns sets x total ps
