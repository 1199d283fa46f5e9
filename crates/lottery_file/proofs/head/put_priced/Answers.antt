use Rattle.std.proofs.Common.{ℕ, List, Vec, Global, ap, map}
use Rattle.std.specs.Prelude.{ℤ}
use Rattle.table_text.specs.Rows.{rows_text}
use Rattle.definitions.specs.Values.{prices_value}
use Rattle.lottery_file.specs.Lotteries.{lists_value}
use Rattle.lottery_file.specs.Written.{price_rows, worth_rows}
use Rattle.lottery_file.proofs.Buffering.{puts_as, puts_next, puts_stop, puts_refused}
use Rattle.lottery_file.proofs.WrittenRows.{priced_text}
use Rattle.lottery_file.proofs.head.put_priced.Goals as goal

pub returns-in_err-put_prices : goal.returns-in_err-put_prices
returns-in_err-put_prices g c =
    let agents = c.args.agents.now in
    let columns = c.args.columns.now in
    let lists = lists_value c.args.lists.now in
    let y = prices_value c.args.prices.now in
    let same = ap (λ (prices : List ℕ). rows_text (price_rows 1 prices)) c.deref.ensures.value in
    puts_refused c.from_residual.result c.from_residual.ensures.1
    (puts_as (priced_text agents columns lists y) (puts_stop (rows_text (worth_rows agents columns lists y.worth)) (puts_as same c.in_err-put_prices.ensures)))

pub returns : goal.returns
returns g c =
    let agents = c.args.agents.now in
    let columns = c.args.columns.now in
    let lists = lists_value c.args.lists.now in
    let y = prices_value c.args.prices.now in
    let first = ap (λ (prices : List ℕ). rows_text (price_rows 1 prices)) c.deref.ensures.value in
    let second = ap (λ (worths : List (Vec ℤ Global)). rows_text (worth_rows agents columns lists (map (λ (w : Vec ℤ Global). w.items) worths))) c.deref-2.ensures.value in
    puts_as (priced_text agents columns lists y) (puts_next (puts_as first c.in_ok-put_prices.ensures) (puts_as second c.put_worths.ensures))
