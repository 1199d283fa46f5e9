-- The last of some pieces.
use Rattle.std.proofs.Common.{◌≡◌, ◌∙◌, ◌+◌, ◌++◌, ◌∷◌, [], ℕ, suc, zero, List, refl, sym, ap, length, get_or, set, map, arith}
use Rattle.std.proofs.Common.{Vec, Global}
use Rattle.std.proofs.lemmas.List.{length-map, map-set, get_or-map}
use Rattle.std.proofs.lemmas.List.Sums.{sum_by-cons}
use Rattle.std.proofs.Math.Seq.{map-set_same}
use Rattle.definitions.specs.Values.{piece_value, PieceValue}
use Rattle.lottery_file.specs.Said.{onto_last}
use Rattle.lottery_file.specs.Checks.{weight_sum, follows_last, follows_gives, comes_after}
use Rattle.definitions.specs.declared.Piece.{Piece}
use Rattle.definitions.specs.declared.Give.{Give}

pub set-last : (g : Give) (ps : List PieceValue) (i : ℕ) (d : PieceValue) → i + 1 ≡ length ps
    → set ps i (record { weight = (get_or ps i d).weight; gives = (get_or ps i d).gives ++ g ∷ [] }) ≡ onto_last g ps
set-last g [] i d e = absurd (omega arith)
set-last g (p ∷ []) zero d e = refl
set-last g (p ∷ []) (suc i) d e = absurd (omega arith)
set-last g (p ∷ q ∷ ps) zero d e = absurd (omega arith)
set-last g (p ∷ q ∷ ps) (suc i) d e = ap (λ (t : List PieceValue). p ∷ t) (set-last g (q ∷ ps) i d (omega arith))

pub weight-last : (g : Give) (ps : List PieceValue) → weight_sum (onto_last g ps) ≡ weight_sum ps
weight-last g [] = refl
weight-last g (p ∷ []) = refl
weight-last g (p ∷ q ∷ ps) =
    let w : PieceValue → ℕ = λ p. p.weight in
    sum_by-cons w p (onto_last g (q ∷ ps)) ∙ ap (λ (n : ℕ). p.weight + n) (weight-last g (q ∷ ps)) ∙ sym (sum_by-cons w p (q ∷ ps))

pub give-last : (items : List Piece) (i : ℕ) (q : Piece) (gives : Vec Give Global) (g : Give) → i + 1 ≡ length items → q ≡ get_or items i q → gives.items ≡ q.gives.items ++ g ∷ []
    → map piece_value (set items i (record { weight = q.weight; gives = gives })) ≡ onto_last g (map piece_value items)
give-last items i q gives g l e h =
    let same : get_or (map piece_value items) i (piece_value q) ≡ piece_value q = get_or-map piece_value items i q (piece_value q) (omega (arith, l)) ∙ ap piece_value (sym e) in
    map-set piece_value items i (record { weight = q.weight; gives = gives }) ∙ rw h (rw same at (set-last g (map piece_value items) i (piece_value q) (l ∙ sym (length-map items piece_value))))

pub keep-last : (items : List Piece) (i : ℕ) (q : Piece) (gives : Vec Give Global) → q ≡ get_or items i q → gives.items ≡ q.gives.items
    → map piece_value (set items i (record { weight = q.weight; gives = gives })) ≡ map piece_value items
keep-last items i q gives e h = map-set_same piece_value items i (record { weight = q.weight; gives = gives }) q (rw h (ap piece_value e))

pub follows-piece : (a c : ℕ) (ps : List PieceValue) (i : ℕ) (d : PieceValue) → i + 1 ≡ length ps → follows_gives a c (get_or ps i d).gives ≡ follows_last a c ps
follows-piece a c [] i d e = absurd (omega arith)
follows-piece a c (p ∷ []) zero d e = refl
follows-piece a c (p ∷ []) (suc i) d e = absurd (omega arith)
follows-piece a c (p ∷ q ∷ ps) zero d e = absurd (omega arith)
follows-piece a c (p ∷ q ∷ ps) (suc i) d e = follows-piece a c (q ∷ ps) i d (omega arith)

pub follows-give : (a c : ℕ) (gs : List Give) (i : ℕ) (d : Give) → i + 1 ≡ length gs → comes_after a c (get_or gs i d) ≡ follows_gives a c gs
follows-give a c [] i d e = absurd (omega arith)
follows-give a c (p ∷ []) zero d e = refl
follows-give a c (p ∷ []) (suc i) d e = absurd (omega arith)
follows-give a c (p ∷ q ∷ ps) zero d e = absurd (omega arith)
follows-give a c (p ∷ q ∷ ps) (suc i) d e = follows-give a c (q ∷ ps) i d (omega arith)
