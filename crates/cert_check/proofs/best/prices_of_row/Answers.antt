use Rattle.std.proofs.Common.{◌≡◌, ℕ, ◌+◌, ◌*◌, ◌<◌, ◌==◌, List, length, ap, sym, ◌∙◌, subst, arith, All, count_by}
use Rattle.std.specs.Prelude.{filter, slice_index}
use Rattle.std.proofs.lemmas.List.{length-replicate, get_or-replicate, get_or_default}
use Rattle.definitions.specs.declared.Cell.{Cell}
use Rattle.definitions.specs.Sets.{cell_of, SetValue}
use Rattle.definitions.specs.Values.{prices_value}
use Rattle.cert_check.specs.PriceFaults.{stated_at}
use Rattle.definitions.proofs.Families.{stated_count}
use Rattle.cert_check.proofs.RowPrices.{price_before, price_more, price_all, run_columns, run_room}
use Rattle.cert_check.proofs.best.prices_of_row.Goals as goal

pub loop-index-init : goal.loop-index-init
loop-index-init c = λ a l. ap (λ (r : List ℕ). slice_index r a) c.requires.row ∙ get_or-replicate 201 a 0 0 l

pub add_price-requires-clause-columns : goal.add_price-requires-clause-columns
add_price-requires-clause-columns c =
    let run : c.cells_of-cells.result.now ≡ filter (λ (k : Cell). k.agent == c.args.agent) (stated_at c.args.problem.now c.loop-index.index).cells =
    c.cells_of-cells.ensures.value ∙ ap (λ (s : SetValue). filter (λ (k : Cell). k.agent == c.args.agent) s.cells) c.stated.ensures.value in
    let many : length c.loop-index.row ≡ 201 = omega (arith, c.loop-index.auto.row, ap length c.requires.row, length-replicate {A = ℕ}) in
    subst (λ (cells : List Cell). All (λ (k : Cell). k.object < length c.loop-index.row) cells) (sym run)
    (run_columns c.args.problem.now (prices_value c.args.prices.now) c.requires.priced.problem c.requires.priced.shape c.loop-index.index c.args.agent (length c.loop-index.row) (omega arith) many)

pub add_price-requires-clause-room : goal.add_price-requires-clause-room
add_price-requires-clause-room c = λ a l.
    let run : c.cells_of-cells.result.now ≡ filter (λ (k : Cell). k.agent == c.args.agent) (stated_at c.args.problem.now c.loop-index.index).cells =
    c.cells_of-cells.ensures.value ∙ ap (λ (s : SetValue). filter (λ (k : Cell). k.agent == c.args.agent) s.cells) c.stated.ensures.value in
    let price : c.index.result.now ≡ slice_index c.args.prices.now.price.items c.loop-index.index =
    c.index.ensures ∙ get_or_default c.args.prices.now.price.items c.loop-index.index c.index.result.now 0 (omega (arith, stated_count c.args.problem.now c.requires.priced.problem, c.requires.priced.shape.prices)) in
    let many : length c.loop-index.row ≡ 201 = omega (arith, c.loop-index.auto.row, ap length c.requires.row, length-replicate {A = ℕ}) in
    let product : c.index.result.now * length c.cells_of-cells.result.now ≡ slice_index c.args.prices.now.price.items c.loop-index.index * length (filter (λ (k : Cell). k.agent == c.args.agent) (stated_at c.args.problem.now c.loop-index.index).cells) =
    ap (λ n. n * length c.cells_of-cells.result.now) price ∙ ap (λ (cells : List Cell). slice_index c.args.prices.now.price.items c.loop-index.index * length cells) run in
    let room = run_room c.args.problem.now (prices_value c.args.prices.now) c.requires.priced.problem c.requires.priced.shape c.requires.priced.small c.loop-index.index c.args.agent a (omega arith) in
    let here = c.loop-index.invariant a (omega (arith, many, l)) in
    omega (arith, product, room, here)

pub loop-index-preserved : goal.loop-index-preserved
loop-index-preserved c = λ a l.
    let run : c.cells_of-cells.result.now ≡ filter (λ (k : Cell). k.agent == c.args.agent) (stated_at c.args.problem.now c.loop-index.index).cells =
    c.cells_of-cells.ensures.value ∙ ap (λ (s : SetValue). filter (λ (k : Cell). k.agent == c.args.agent) s.cells) c.stated.ensures.value in
    let price : c.index.result.now ≡ slice_index c.args.prices.now.price.items c.loop-index.index =
    c.index.ensures ∙ get_or_default c.args.prices.now.price.items c.loop-index.index c.index.result.now 0 (omega (arith, stated_count c.args.problem.now c.requires.priced.problem, c.requires.priced.shape.prices)) in
    let many : length c.loop-index.row ≡ 201 = omega (arith, c.loop-index.auto.row, ap length c.requires.row, length-replicate {A = ℕ}) in
    let product : c.index.result.now * count_by (λ (k : Cell). k.object == a) c.cells_of-cells.result.now
    ≡ slice_index c.args.prices.now.price.items c.loop-index.index * count_by (λ (k : Cell). k.object == a) (filter (λ (k : Cell). k.agent == c.args.agent) (stated_at c.args.problem.now c.loop-index.index).cells) =
    ap (λ n. n * count_by (λ (k : Cell). k.object == a) c.cells_of-cells.result.now) price ∙ ap (λ (cells : List Cell). slice_index c.args.prices.now.price.items c.loop-index.index * count_by (λ (k : Cell). k.object == a) cells) run in
    let more = price_more c.args.problem.now (prices_value c.args.prices.now) c.requires.priced.problem c.requires.priced.shape c.loop-index.index c.args.agent a (omega arith) in
    let here = c.loop-index.invariant a l in
    let after = c.add_price.ensures a (omega (arith, many, l)) in
    after ∙ ap (λ n. n + c.index.result.now * count_by (λ (k : Cell). k.object == a) c.cells_of-cells.result.now) here
    ∙ ap (λ n. price_before c.args.problem.now (prices_value c.args.prices.now) c.loop-index.index (cell_of c.args.agent a) + n) product ∙ sym more

pub returns : goal.returns
returns c =
    let ends : c.loop-index.index ≡ c.args.problem.now.stated = omega arith in
    record {
      many = omega (arith, c.loop-index.auto.row, ap length c.requires.row, length-replicate {A = ℕ});
      prices = λ a l. c.loop-index.invariant a l ∙ ap (λ n. price_before c.args.problem.now (prices_value c.args.prices.now) n (cell_of c.args.agent a)) ends
          ∙ price_all c.args.problem.now (prices_value c.args.prices.now) c.requires.priced.problem c.requires.priced.shape (cell_of c.args.agent a);
    }
