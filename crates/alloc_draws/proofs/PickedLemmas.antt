-- The text of a ticket and of its piece.
use Rattle.std.proofs.Common.{◌≡◌, ℕ, ◌+◌, ◌<◌, List, [], ◌∷◌, ◌++◌, map, length, get_or, refl, sym, ◌∙◌, ap, append_assoc}
use Rattle.std.specs.Prelude.{codes, decimal, slice_index_or}
use Rattle.std.proofs.lemmas.List.{get_or-map}
use Rattle.std.proofs.lemmas.Simd.{map-map}
use Rattle.definitions.specs.declared.Piece.{Piece}
use Rattle.definitions.specs.Lotteries.{LotteryValue}
use Rattle.definitions.specs.Texts.{Row}
use Rattle.definitions.specs.Tickets.{piece_of}
use Rattle.definitions.specs.Values.{PieceValue, piece_value}
use Rattle.lottery_file.specs.Written.{give_row, piece_rows}
use Rattle.seed_draw.specs.Weights.{weights_of}
use Rattle.table_text.specs.Rows.{rows_text}
use Rattle.table_text.proofs.TextFacts.{rows_text-append}
use Rattle.alloc_draws.specs.Picked.{picked_text, ticket_rows}

regroup : (t a b g z : List ℕ) → (((t ++ a) ++ b) ++ g) ++ z ≡ t ++ (a ++ ((b ++ g) ++ z))
regroup t a b g z = simp append_assoc

-- rows that are appended in four parts
texts_join : (first second last : Row) (gives : List Row) (t0 t1 t2 t3 t4 : List ℕ)
    → t1 ≡ t0 ++ rows_text (first ∷ []) → t2 ≡ t1 ++ rows_text (second ∷ []) → t3 ≡ t2 ++ rows_text gives → t4 ≡ t3 ++ rows_text (last ∷ [])
    → t4 ≡ t0 ++ rows_text (first ∷ ((second ∷ gives) ++ last ∷ []))
texts_join first second last gives t0 t1 t2 t3 t4 e1 e2 e3 e4 =
    let a = rows_text (first ∷ []) in
    let b = rows_text (second ∷ []) in
    let g = rows_text gives in
    let z = rows_text (last ∷ []) in
    let tail : rows_text ((second ∷ gives) ++ last ∷ []) ≡ (b ++ g) ++ z =
    rows_text-append (second ∷ gives) (last ∷ []) ∙ ap (λ (t : List ℕ). t ++ z) (rows_text-append (second ∷ []) gives) in
    let whole : rows_text (first ∷ ((second ∷ gives) ++ last ∷ [])) ≡ a ++ ((b ++ g) ++ z) =
    rows_text-append (first ∷ []) ((second ∷ gives) ++ last ∷ []) ∙ ap (λ (t : List ℕ). a ++ t) tail in
    e4 ∙ ap (λ (t : List ℕ). t ++ z) (e3 ∙ ap (λ (t : List ℕ). t ++ g) (e2 ∙ ap (λ (t : List ℕ). t ++ b) e1)) ∙ regroup t0 a b g z ∙ ap (λ (t : List ℕ). t0 ++ t) (sym whole)

-- the records of a ticket are appended in four parts
pub ticket_rows-text : (l : LotteryValue) (ticket piece_no : ℕ) (p : PieceValue) (t0 t1 t2 t3 t4 : List ℕ)
    → t1 ≡ t0 ++ rows_text ((codes "ticket" ∷ decimal ticket ∷ decimal l.shares.denominator ∷ []) ∷ [])
    → t2 ≡ t1 ++ rows_text ((codes "piece" ∷ decimal piece_no ∷ decimal p.weight ∷ []) ∷ [])
    → t3 ≡ t2 ++ rows_text (map (give_row l.agents l.columns) p.gives)
    → t4 ≡ t3 ++ rows_text ((codes "end" ∷ decimal (length p.gives) ∷ []) ∷ [])
    → t4 ≡ t0 ++ rows_text (ticket_rows l ticket piece_no p)
unfolding ticket_rows piece_rows
ticket_rows-text l ticket piece_no p t0 t1 t2 t3 t4 e1 e2 e3 e4 =
    texts_join (codes "ticket" ∷ decimal ticket ∷ decimal l.shares.denominator ∷ []) (codes "piece" ∷ decimal piece_no ∷ decimal p.weight ∷ []) (codes "end" ∷ decimal (length p.gives) ∷ [])
    (map (give_row l.agents l.columns) p.gives) t0 t1 t2 t3 t4 e1 e2 e3 e4

-- the piece of a ticket of the pieces that a lottery shows
pub picked_text-piece : (l : LotteryValue) (pieces : List Piece) (ticket place : ℕ) (p : Piece)
    → l.pieces ≡ map piece_value pieces → place ≡ piece_of (weights_of pieces) ticket → place < length pieces → p ≡ get_or pieces place p
    → rows_text (ticket_rows l ticket (place + 1) (piece_value p)) ≡ picked_text l ticket
unfolding picked_text
picked_text-piece l pieces ticket place p shown named inside is =
    let at : piece_of (map (λ (q : PieceValue). q.weight) l.pieces) ticket ≡ place =
    ap (λ (ps : List PieceValue). piece_of (map (λ (q : PieceValue). q.weight) ps) ticket) shown ∙ ap (λ (ws : List ℕ). piece_of ws ticket) (map-map (λ (q : PieceValue). q.weight) piece_value pieces) ∙ sym named in
    let none : PieceValue = record { weight = 0; gives = [] } in
    let piece : slice_index_or l.pieces place none ≡ piece_value p =
    ap (λ (ps : List PieceValue). slice_index_or ps place none) shown ∙ get_or-map piece_value pieces place p none inside ∙ ap piece_value (sym is) in
    rw (at, piece) refl
