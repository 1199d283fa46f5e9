use Rattle.std.proofs.Common.{ap, map}
use Rattle.table_text.specs.Rows.{rows_text}
use Rattle.definitions.specs.Values.{piece_value}
use Rattle.lottery_file.specs.Written.{give_row}
use Rattle.lottery_file.proofs.Buffering.{puts_as, puts_next, puts_stop, puts_refused}
use Rattle.lottery_file.proofs.WrittenRows.{piece_text}
use Rattle.lottery_file.proofs.body.put_piece.Goals as goal

pub returns-in_err-put_made : goal.returns-in_err-put_made
returns-in_err-put_made g c =
    puts_refused c.from_residual.result c.from_residual.ensures.1
    (puts_as (piece_text c.args.agents.now c.args.columns.now c.args.number (piece_value c.args.piece.now))
    (puts_stop (rows_text (map (give_row c.args.agents.now c.args.columns.now) c.args.piece.now.gives.items)) (c.in_err-put_made.ensures _ c.row_of_two-row.ensures)))

pub returns : goal.returns
returns g c =
    let gives = puts_as (ap (λ gs. rows_text (map (give_row c.args.agents.now c.args.columns.now) gs)) c.deref.ensures.value) c.put_gives.ensures in
    puts_as (piece_text c.args.agents.now c.args.columns.now c.args.number (piece_value c.args.piece.now)) (puts_next (c.in_ok-put_made.ensures _ c.row_of_two-row.ensures) gives)
