use Rattle.std.proofs.Common.{◌≡◌, ◌∙◌, map, length, arith}
use Rattle.std.proofs.lemmas.List.{length-map}
use Rattle.std.proofs.lemmas.Simd.{map-map}
use Rattle.definitions.specs.Values.{PieceValue, piece_value}
use Rattle.lottery_file.specs.Lotteries.{lottery_value}
use Rattle.serde_json.proofs.Views.{view-Object}
use Rattle.alloc_report.specs.Summary.{weights_of}
use Rattle.alloc_report.proofs.MembersLemmas.{shown_prices, summary-members}
use Rattle.alloc_report.proofs.members.summary_of.Goals as goal

pub returns : goal.returns
returns c =
    let l = lottery_value c.args.lottery.now in
    let pieces = c.args.lottery.now.pieces.list.items in
    let weights : weights_of l ≡ map (λ p. p.weight) pieces = map-map (λ (p : PieceValue). p.weight) piece_value pieces in
    let many : length l.pieces ≡ length pieces = length-map pieces piece_value in
    let count : c.len-3.result ≡ length l.pieces = omega arith in
    let shown = shown_prices c.args.lottery.now.prices in
    view-Object c.put-5.new.map
    ∙ summary-members l _ _ _ _ _ _ _ _
    (rw (c.new-all.ensures.empty, c.from-agents.ensures, c.len.ensures.value) at c.in_ok-put.ensures.ok)
    (rw (c.from-columns.ensures, c.len-2.ensures.value) at c.in_ok-put-2.ensures.ok)
    (rw c.denominator.ensures.value at c.in_ok-put_text_of.ensures)
    (rw (view-Object c.in_ok-expected_of.field-0, c.in_ok-expected_of.ensures) at c.in_ok-put-3.ensures.ok)
    (rw (c.greatest_weight.ensures, c.deref.ensures.value, ← weights) at c.in_ok-put_text_of-2.ensures)
    (rw (c.least_weight.ensures, c.deref-2.ensures.value, ← weights) at c.in_ok-put_text_of-3.ensures)
    (rw (c.from.ensures, count) at c.in_ok-put-4.ensures.ok)
    (rw (c.from-priced.ensures, c.is_some.ensures, ← shown) at c.in_ok-put-5.ensures.ok)
