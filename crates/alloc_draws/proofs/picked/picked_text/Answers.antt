use Rattle.std.proofs.Common.{◌<◌, ℕ, ◌+◌, List, ◌++◌, length, refl, ap, ◌∙◌}
use Rattle.definitions.specs.declared.Piece.{Piece}
use Rattle.definitions.specs.Tickets.{piece_of}
use Rattle.definitions.specs.Values.{piece_value}
use Rattle.lottery_file.specs.Lotteries.{lottery_value}
use Rattle.seed_draw.specs.Weights.{weights_of}
use Rattle.table_text.specs.Rows.{rows_text}
use Rattle.alloc_draws.specs.Picked.{ticket_rows}
use Rattle.alloc_draws.proofs.PickedLemmas.{picked_text-piece}
use Rattle.alloc_draws.proofs.picked.picked_text.Goals as goal

pub returns : goal.returns
returns c =
    let l = lottery_value c.args.lottery.now in
    let pieces = c.args.lottery.now.pieces.list.items in
    let named = c.piece_in-place.ensures.value ∙ ap (λ (ps : List Piece). piece_of (weights_of ps) c.args.ticket) c.deref.ensures.value in
    let inside : c.piece_in-place.result < length pieces = rw c.deref.ensures.value at c.piece_in-place.ensures.within in
    c.in_ok-put_ticket.ensures
    ∙ ap (λ (text : List ℕ). text ++ rows_text (ticket_rows l c.args.ticket (c.piece_in-place.result + 1) (piece_value c.index-piece.result.now))) c.new-text.ensures.items
    ∙ picked_text-piece l pieces c.args.ticket c.piece_in-place.result c.index-piece.result.now refl named inside c.index-piece.ensures
