use Rattle.std.proofs.Common.{◌≡◌, ◌∙◌, ◌++◌, Option, Some, None, Bor, ap, sym}
use Rattle.std.specs.Prelude.{option_map}
use Rattle.table_text.specs.Rows.{rows_text}
use Rattle.definitions.specs.Values.{PricesValue, prices_value}
use Rattle.definitions.specs.declared.Prices.{Prices}
use Rattle.lottery_file.specs.Lotteries.{lists_value}
use Rattle.lottery_file.specs.Written.{head_rows, share_rows, priced_rows}
use Rattle.lottery_file.proofs.Buffering.{puts_as, puts_next, puts_stop, puts_none, puts_refused}
use Rattle.lottery_file.proofs.WrittenRows.{head_text}
use Rattle.lottery_file.proofs.head.put_head.Goals as goal

-- the prices behind references
abbrev given : Option (Bor Prices) → Option PricesValue
given prices = option_map (λ (y : Bor Prices). prices_value y.now) prices

pub returns-in_err-put_names : goal.returns-in_err-put_names
returns-in_err-put_names g c =
    let agents = c.args.agents.now in
    let columns = c.args.columns.now in
    let x = c.args.shares.now in
    let lists = lists_value c.args.lists.now in
    let rest = rows_text (share_rows agents x.columns x.units) ++ rows_text (priced_rows agents columns lists (given c.args.prices)) in
    puts_refused c.from_residual.result c.from_residual.ensures.1
    (puts_as (head_text agents columns c.denominator-denominator.result x.columns x lists (given c.args.prices) c.denominator-denominator.ensures.value c.requires.unit_each) (puts_stop rest c.in_err-put_names.ensures))

pub returns-in_err-put_shares : goal.returns-in_err-put_shares
returns-in_err-put_shares g c =
    let agents = c.args.agents.now in
    let columns = c.args.columns.now in
    let x = c.args.shares.now in
    let lists = lists_value c.args.lists.now in
    puts_refused c.from_residual-in_err-put_shares.result c.from_residual-in_err-put_shares.ensures.1
    (puts_as (head_text agents columns c.denominator-denominator.result x.columns x lists (given c.args.prices) c.denominator-denominator.ensures.value c.requires.unit_each)
    (puts_next c.in_ok-put_names.ensures (puts_stop (rows_text (priced_rows agents columns lists (given c.args.prices))) c.in_err-put_shares.ensures)))

pub returns-in-Some : goal.returns-in-Some
returns-in-Some g c =
    let agents = c.args.agents.now in
    let columns = c.args.columns.now in
    let x = c.args.shares.now in
    let lists = lists_value c.args.lists.now in
    let prices : Option PricesValue = Some (prices_value c.in-Some.prices.now) in
    let same : given c.args.prices ≡ prices = ap given c.in-Some.is in
    puts_as (head_text agents columns c.denominator-denominator.result x.columns x lists prices c.denominator-denominator.ensures.value c.requires.unit_each ∙ ap (λ (o : Option PricesValue). rows_text (head_rows agents columns x lists o)) (sym same))
    (puts_next c.in_ok-put_names.ensures (puts_next c.in_ok-put_shares.ensures c.put_priced.ensures))

pub returns-in-None : goal.returns-in-None
returns-in-None g c =
    let agents = c.args.agents.now in
    let columns = c.args.columns.now in
    let x = c.args.shares.now in
    let lists = lists_value c.args.lists.now in
    let prices : Option PricesValue = None in
    let same : given c.args.prices ≡ prices = ap given c.in-None.is in
    puts_as (head_text agents columns c.denominator-denominator.result x.columns x lists prices c.denominator-denominator.ensures.value c.requires.unit_each ∙ ap (λ (o : Option PricesValue). rows_text (head_rows agents columns x lists o)) (sym same))
    (puts_next c.in_ok-put_names.ensures (puts_next c.in_ok-put_shares.ensures puts_none))
