use Rattle.std.proofs.Common.{◌≡◌, length, sym, ◌∙◌, arith}
use Rattle.std.proofs.lemmas.List.{length-map}
use Rattle.definitions.specs.Values.{piece_value}
use Rattle.cert_check.specs.PieceFaults.{pieces_value}
use Rattle.cert_check.proofs.GiveOrder.{order_of}
use Rattle.cert_check.proofs.distinct.unlike_later.Goals as goal

pub mark-requires-clause-order : goal.mark-requires-clause-order
mark-requires-clause-order c =
    let many : length (pieces_value c.args.pieces.now) ≡ length c.args.pieces.now.list.items = length-map c.args.pieces.now.list.items piece_value in
    order_of (pieces_value c.args.pieces.now) c.in_ok-order.order.items c.deref-then-rises.result.now (omega (arith, many, c.in_ok-order.ensures.many, c.len.ensures))
    (λ i l. c.in_ok-order.ensures.each i (omega (arith, l, many, c.len.ensures))) (rw c.deref-then-rises.ensures.value c.sort_unstable_by.ensures.permutation)
    (rw (c.deref-then-rises.ensures.value ∙ sym c.deref.ensures.value) (c.rises.ensures c.if-rises.true))
