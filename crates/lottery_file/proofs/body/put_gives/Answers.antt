use Rattle.std.proofs.Common.{◌+◌, ◌<◌, [], List, length, map, take, drop, arith}
use Rattle.definitions.specs.Texts.{Row}
use Rattle.table_text.specs.Rows.{rows_text}
use Rattle.std.proofs.lemmas.List.{length-map, get_or-map}
use Rattle.lottery_file.specs.Written.{give_row}
use Rattle.lottery_file.proofs.Buffering.{puts_as, puts_next, puts_stop, puts_refused}
use Rattle.lottery_file.proofs.WrittenRows.{row_next, row_stop}
use Rattle.lottery_file.proofs.body.put_gives.Goals as goal

pub returns-in_err-put_made : goal.returns-in_err-put_made
returns-in_err-put_made g c =
    let i = c.loop-give.give-index in
    let row_of = give_row c.args.agents.now c.args.columns.now in
    let rows : List Row = map row_of c.args.gives.now in
    let lt : i < length rows = omega (arith, length-map c.args.gives.now row_of) in
    puts_refused c.from_residual.result c.from_residual.ensures.1
    (puts_as (row_stop rows i _ lt (get_or-map row_of c.args.gives.now i _ [] (omega arith)))
    (puts_stop (rows_text (drop (i + 1) rows)) (puts_next {t = rows_text (take i rows)} c.loop-give.invariant (c.in_err-put_made.ensures _ c.row_of_give-row.ensures))))

pub loop-give-preserved : goal.loop-give-preserved
loop-give-preserved g c =
    let i = c.loop-give.give-index in
    let row_of = give_row c.args.agents.now c.args.columns.now in
    let rows : List Row = map row_of c.args.gives.now in
    let lt : i < length rows = omega (arith, length-map c.args.gives.now row_of) in
    puts_as (row_next rows i _ lt (get_or-map row_of c.args.gives.now i _ [] (omega arith))) (puts_next {t = rows_text (take i rows)} c.loop-give.invariant (c.in_ok-put_made.ensures _ c.row_of_give-row.ensures))
