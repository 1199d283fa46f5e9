-- The piece of a ticket, one piece at a time.
use Rattle.std.proofs.Common.{◌≡◌, ℕ, suc, ◌+◌, ◌-◌, ◌<◌, ◌≤◌, List, length, sum, get_or, drop, sym, ◌∙◌, ap, arith}
use Rattle.std.proofs.lemmas.List.{get_or-map}
use Rattle.std.proofs.Math.Seq.{drop-cons}
use Rattle.std.proofs.lemmas.List.Sums.{sum_by-drop_more}
use Rattle.definitions.specs.Tickets.{piece_of}
use Rattle.definitions.specs.declared.Piece.{Piece}
use Rattle.definitions.proofs.Tickets.{piece_here, piece_later}
use Rattle.seed_draw.specs.Weights.{weights_of}

-- the piece at index i has what is left of the ticket
pub named_here : (ws : List ℕ) (i t : ℕ) → i < length ws → t < get_or ws i 0 → piece_of (drop i ws) t ≡ 0
named_here ws i t l h = ap (λ xs. piece_of xs t) (drop-cons ws i 0 l) ∙ piece_here (get_or ws i 0) (drop (suc i) ws) t h

-- a later piece has it
pub named_later : (ws : List ℕ) (i t : ℕ) → i < length ws → get_or ws i 0 ≤ t → piece_of (drop i ws) t ≡ 1 + piece_of (drop (i + 1) ws) (t - get_or ws i 0)
named_later ws i t l h =
    let e : suc i ≡ i + 1 = omega arith in
    let step = ap (λ xs. piece_of xs t) (drop-cons ws i 0 l) ∙ piece_later (get_or ws i 0) (drop (suc i) ws) t h in
    let there = ap (λ j. piece_of (drop j ws) (t - get_or ws i 0)) e in
    omega (arith, step, there)

pub sum_later : (ws : List ℕ) (i : ℕ) → i < length ws → sum (drop i ws) ≡ get_or ws i 0 + sum (drop (i + 1) ws)
sum_later ws i l = sum_by-drop_more (λ x. x) ws i 0 l

pub get_or-weights_of : (pieces : List Piece) (i : ℕ) (piece : Piece) → i < length pieces → piece ≡ get_or pieces i piece → get_or (weights_of pieces) i 0 ≡ piece.weight
get_or-weights_of pieces i piece l e = get_or-map (λ (p : Piece). p.weight) pieces i piece 0 l ∙ ap (λ (p : Piece). p.weight) (sym e)
