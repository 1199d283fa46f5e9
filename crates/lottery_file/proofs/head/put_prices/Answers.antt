use Rattle.std.proofs.Common.{◌+◌, ◌<◌, ◌≤◌, ap, length, take, drop, arith}
use Rattle.table_text.specs.Rows.{rows_text}
use Rattle.lottery_file.specs.Written.{price_rows}
use Rattle.lottery_file.proofs.Buffering.{puts_as, puts_next, puts_stop, puts_refused}
use Rattle.lottery_file.proofs.WrittenRows.{row_next, row_stop, price_count, price_here}
use Rattle.std.proofs.lemmas.List.{take_all}
use Rattle.lottery_file.proofs.head.put_prices.Goals as goal

pub returns-in_err-put_made : goal.returns-in_err-put_made
returns-in_err-put_made g c =
    let i = c.loop-i.i in
    let prices = c.args.prices.now in
    let rows = price_rows 1 prices in
    let lt : i < length rows = omega (arith, price_count 1 prices) in
    puts_refused c.from_residual.result c.from_residual.ensures.1
    (puts_as (row_stop rows i _ lt (price_here 1 prices i 0 (omega arith)))
    (puts_stop (rows_text (drop (i + 1) rows)) (puts_next {t = rows_text (take i rows)} c.loop-i.invariant (c.in_err-put_made.ensures _ c.row_of_two-row.ensures))))

pub loop-i-preserved : goal.loop-i-preserved
loop-i-preserved g c =
    let i = c.loop-i.i in
    let prices = c.args.prices.now in
    let rows = price_rows 1 prices in
    let lt : i < length rows = omega (arith, price_count 1 prices) in
    puts_as (row_next rows i _ lt (price_here 1 prices i 0 (omega arith))) (puts_next {t = rows_text (take i rows)} c.loop-i.invariant (c.in_ok-put_made.ensures _ c.row_of_two-row.ensures))

pub returns : goal.returns
returns g c =
    let rows = price_rows 1 c.args.prices.now in
    let all : length rows ≤ c.loop-i.i = omega (arith, price_count 1 c.args.prices.now) in
    puts_as (ap rows_text (take_all c.loop-i.i rows all)) c.loop-i.invariant
