use Rattle.std.proofs.Common.{◌≡◌, ◌+◌, ◌<◌, ◌∙◌, ◌++◌, ℕ, List, ap, sym, length, map, drop, get_or, arith}
use Rattle.table_text.specs.Rows.{rows_text}
use Rattle.definitions.specs.Values.{PieceValue, piece_value}
use Rattle.std.proofs.lemmas.List.{length-map, get_or-map}
use Rattle.lottery_file.specs.Written.{piece_rows, pieces_rows}
use Rattle.lottery_file.proofs.Buffering.{puts_as, puts_next, puts_stop, puts_none, puts_refused}
use Rattle.lottery_file.proofs.WrittenRows.{pieces_next, pieces_split}
use Rattle.lottery_file.proofs.body.put_pieces.Goals as goal

pub loop-i-init : goal.loop-i-init
unfolding pieces_rows
loop-i-init g c = puts_none

pub returns-in_err-put_piece : goal.returns-in_err-put_piece
returns-in_err-put_piece g c =
    let i = c.loop-i.i in
    let agents = c.args.agents.now in
    let columns = c.args.columns.now in
    let ps : List PieceValue = map piece_value c.args.pieces.now in
    let p = piece_value c.index-pieces-i.result in
    let lt : i < length ps = omega (arith, length-map c.args.pieces.now piece_value) in
    let is : get_or ps i p ≡ p = get_or-map piece_value c.args.pieces.now i c.index-pieces-i.result p (omega arith) ∙ ap piece_value (sym c.index-pieces-i.is) in
    let rest = rows_text (pieces_rows agents columns (i + 1 + 1) (drop (i + 1) ps)) in
    let whole = ap (λ (t : List ℕ). t ++ rest) (pieces_next agents columns 1 ps i p lt is) ∙ pieces_split agents columns 1 ps (i + 1) (omega (arith, lt)) in
    puts_refused c.from_residual.result c.from_residual.ensures.1
    (puts_as whole (puts_stop rest (puts_next {u = rows_text (piece_rows agents columns (i + 1) p)} c.loop-i.invariant c.in_err-put_piece.ensures)))

pub loop-i-preserved : goal.loop-i-preserved
loop-i-preserved g c =
    let i = c.loop-i.i in
    let ps : List PieceValue = map piece_value c.args.pieces.now in
    let p = piece_value c.index-pieces-i.result in
    let lt : i < length ps = omega (arith, length-map c.args.pieces.now piece_value) in
    let is : get_or ps i p ≡ p = get_or-map piece_value c.args.pieces.now i c.index-pieces-i.result p (omega arith) ∙ ap piece_value (sym c.index-pieces-i.is) in
    puts_as (pieces_next c.args.agents.now c.args.columns.now 1 ps i p lt is)
    (puts_next {u = rows_text (piece_rows c.args.agents.now c.args.columns.now (i + 1) p)} c.loop-i.invariant c.in_ok-put_piece.ensures)
