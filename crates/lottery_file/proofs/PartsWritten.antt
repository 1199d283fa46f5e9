-- The parts of a lottery, written one after the other, are its text.
use Rattle.std.proofs.Common.{◌≡◌, ◌+◌, ◌∙◌, ◌++◌, ◌∷◌, [], ℕ, List, refl, sym, ap, length}
use Rattle.definitions.specs.Values.{PieceValue}
use Rattle.definitions.specs.Pieces.{WeightedMatrix}
use Rattle.definitions.specs.Gives.{pieces_of, piece_of_matrix}
use Rattle.definitions.specs.Lotteries.{LotteryValue, IsLottery, matrices_of}
use Rattle.table_text.specs.Rows.{rows_text}
use Rattle.table_text.proofs.TextFacts.{rows_text-append}
use Rattle.lottery_file.specs.Written.{head_rows, piece_rows, pieces_rows, end_row, lottery_text, pieces_written, parts_text}
use Rattle.lottery_file.proofs.GivesBack.{pieces-back}
use Rattle.lottery_file.proofs.WrittenRows.{whole_text}

-- the pieces one by one are the records of them all
pieces-text : (agents columns : List (List ℕ)) (n : ℕ) (ps : List WeightedMatrix) → pieces_written agents columns n ps ≡ rows_text (pieces_rows agents columns n (pieces_of (length columns) ps))
unfolding pieces_written pieces_rows
pieces-text agents columns n [] = refl
pieces-text agents columns n (p ∷ ps) =
    let one = piece_rows agents columns n (piece_of_matrix (length columns) p) in
    ap (λ (t : List ℕ). rows_text one ++ t) (pieces-text agents columns (n + 1) ps)
    ∙ sym (rows_text-append one (pieces_rows agents columns (n + 1) (pieces_of (length columns) ps)))

pub parts-are-text : (l : LotteryValue) → IsLottery l → parts_text l ≡ lottery_text l
unfolding end_row
parts-are-text l h =
    let head = rows_text (head_rows l.agents l.columns l.shares l.lists l.prices) in
    let last = rows_text (end_row (length l.pieces) ∷ []) in
    let back : pieces_of (length l.columns) (matrices_of l) ≡ l.pieces = rw (← h.columns) (pieces-back l.shares.agents l.shares.columns l.pieces h.gives) in
    ap (λ (t : List ℕ). head ++ (t ++ last)) (pieces-text l.agents l.columns 1 (matrices_of l) ∙ ap (λ (ps : List PieceValue). rows_text (pieces_rows l.agents l.columns 1 ps)) back)
    ∙ whole_text l (length l.pieces) refl
