use Rattle.std.proofs.Common.{◌≡◌, ◌+◌, List, ap, inl, inr, slice_index, sym, true, ◌∙◌}
use Rattle.definitions.specs.declared.Give.{Give}
use Rattle.cert_check.specs.GiveOrder.{gives_before}
use Rattle.cert_check.specs.PieceFaults.{gives_at, pieces_value}
use Rattle.cert_check.proofs.GiveOrder.{unlike_at}
use Rattle.cert_check.proofs.distinct.differs_from_next.Goals as goal

pub returns-then-place-order : goal.returns-then-place-order
returns-then-place-order c = λ t. unlike_at (pieces_value c.args.pieces.now) c.args.order.now c.requires.order c.args.place c.requires.place (inl c.if-place-order.true)

pub returns-else-place-order : goal.returns-else-place-order
returns-else-place-order c = λ t.
    let before : gives_before (gives_at (pieces_value c.args.pieces.now) (slice_index c.args.order.now c.args.place)) (gives_at (pieces_value c.args.pieces.now) (slice_index c.args.order.now (c.args.place + 1))) ≡ true =
    ap (λ (gs : List Give). gives_before gs (gives_at (pieces_value c.args.pieces.now) (slice_index c.args.order.now (c.args.place + 1)))) (sym c.gives_or_none.ensures)
    ∙ ap (gives_before c.gives_or_none.result.now) (sym c.gives_or_none-else-place-order.ensures) ∙ sym c.is_before.ensures ∙ t in
    unlike_at (pieces_value c.args.pieces.now) c.args.order.now c.requires.order c.args.place c.requires.place (inr before)
