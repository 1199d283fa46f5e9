-- The pieces in a list, while they are collected and in the end.
use Rattle.std.proofs.Common.{◌≡◌, ℕ, ◌*◌, ◌<◌, ◌≤◌, List, [], ◌∷◌, ◌++◌, length, map, refl, sym, ◌∙◌, ap, subst, arith}
use Rattle.std.specs.Prelude.{slice_index}
use Rattle.std.proofs.lemmas.List.{map_push}
use Rattle.std.proofs.lemmas.List.Elements.{All-push, All-map}
use Rattle.definitions.specs.declared.Give.{Give}
use Rattle.definitions.specs.declared.Piece.{Piece}
use Rattle.definitions.specs.Values.{PieceValue, piece_value}
use Rattle.definitions.specs.Gives.{piece_of_matrix, pieces_of, gives_of}
use Rattle.definitions.specs.Peelings.{PeelerValue, sets_of, IsStep}
use Rattle.definitions.specs.Pieces.{WeightedMatrix, Decomposes, weighted_pieces}
use Rattle.definitions.proofs.Gives.{AreShaped, weighted_back, all_gives_lawful}
use Rattle.definitions.proofs.Sums.{sum_mapped}
use Rattle.rounding_laws.proofs.Peeling.{piece}
use Rattle.peeling.specs.Peelers.{IsPeeler, ArePiecesOf}
use Rattle.peeling.proofs.Given.{shown_shape, Gave, gave_nothing, gave_more, gave_all}

-- the list has the pieces that were given from `start` to `now`
pub record Collected (start now : PeelerValue) (list : List Piece) : Type 0 where
  pub pieces : List WeightedMatrix
  pub gave : Gave start now pieces
  pub shaped : AreShaped start.agents start.columns pieces
  pub listed : map piece_value list ≡ pieces_of start.columns pieces

-- nothing was given yet
pub collected_nothing : (start : PeelerValue) → Collected start start []
collected_nothing start = record {
  pieces = [];
  gave = gave_nothing start;
  shaped = λ k d h. absurd (omega (arith, h));
  listed = refl;
}

-- one more piece is given and pushed
pub collected_more : (start now next : PeelerValue) (w : ℕ) (m : List ℕ) (list : List Piece) (p : Piece) → Collected start now list → IsStep now next w m
    → IsPeeler next → p.weight ≡ w → p.gives.items ≡ gives_of next.columns m → Collected start next (list ++ p ∷ [])
collected_more start now next w m list p so_far step lawful weight gives =
    let ps : List WeightedMatrix = so_far.pieces in
    let gave : Gave start next (ps ++ piece w m ∷ []) = gave_more start now next w m ps so_far.gave step in
    let shape = shown_shape next m lawful step.piece in
    let area : next.agents * next.columns ≡ start.agents * start.columns = ap (λ n. n * next.columns) gave.later.agents ∙ ap (λ n. start.agents * n) gave.later.columns in
    let here : (length m ≡ start.agents * start.columns) × ((i : ℕ) → i < length m → slice_index m i ≤ 1000) = (shape.0 ∙ area, λ i l. shape.1 i 0 l) in
    let made : ℕ → List Give → PieceValue = λ n g. record { weight = n; gives = g } in
    let all : p.gives.items ≡ gives_of start.columns m = gives ∙ ap (λ c. gives_of c m) gave.later.columns in
    let same : piece_value p ≡ piece_of_matrix start.columns (piece w m) = ap (λ n. made n p.gives.items) weight ∙ ap (made w) all in
    record {
      pieces = ps ++ piece w m ∷ [];
      gave = gave;
      shaped = All-push (λ (q : WeightedMatrix). (length q.matrix ≡ start.agents * start.columns) × ((i : ℕ) → i < length q.matrix → slice_index q.matrix i ≤ 1000)) ps (piece w m) so_far.shaped here;
      listed = map_push piece_value list p ∙ ap (λ (qs : List PieceValue). qs ++ piece_value p ∷ []) so_far.listed
          ∙ ap (λ (q : PieceValue). pieces_of start.columns ps ++ q ∷ []) same ∙ sym (map_push (piece_of_matrix start.columns) ps (piece w m));
    }

-- all was given
pub collected_all : (start now : PeelerValue) (list : List Piece) → Collected start now list → IsPeeler now → now.left ≡ 0 → ArePiecesOf start (map piece_value list)
collected_all start now list all lawful none =
    let ps : List WeightedMatrix = all.pieces in
    let decompose : Decomposes start.columns (sets_of start) start.rest start.left ps = gave_all start now ps all.gave lawful none in
    let back : weighted_pieces start.agents start.columns (pieces_of start.columns ps) ≡ ps = weighted_back start.agents start.columns ps all.shaped in
    let made : ArePiecesOf start (pieces_of start.columns ps) = record {
      decompose = subst (λ (qs : List WeightedMatrix). Decomposes start.columns (sets_of start) start.rest start.left qs) (sym back) decompose;
      weights = All-map (λ (q : PieceValue). 1 ≤ q.weight) (piece_of_matrix start.columns) ps decompose.weights;
      adds_up = sum_mapped (λ (q : PieceValue). q.weight) (piece_of_matrix start.columns) ps ∙ decompose.adds_up;
      gives = all_gives_lawful start.agents start.columns ps all.shaped;
    } in
    subst (λ (qs : List PieceValue). ArePiecesOf start qs) (sym all.listed) made
