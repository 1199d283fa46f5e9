use Rattle.std.proofs.Common.{◌∙◌, ◌≡◌, ◌+◌, ◌-◌, sym, ap, arith, length, map}
use Rattle.std.proofs.lemmas.List.{length-map, get_or-map}
use Rattle.definitions.specs.Values.{piece_value}
use Rattle.lottery_file.proofs.PieceFacts.{follows-piece}
use Rattle.lottery_file.proofs.totals.PieceList.precedes.Goals as goal

pub returns : goal.returns
returns c =
    let items = c.self.inside.list.items in
    let i = c.len-n.result - 1 in
    let q = c.index.result.now in
    let last : i + 1 ≡ length items = omega arith in
    let same = get_or-map piece_value items i q (piece_value q) (omega (arith, last)) ∙ ap piece_value (sym c.index.ensures) in
    let gives = rw same at (follows-piece c.args.agent c.args.column (map piece_value items) i (piece_value q) (last ∙ sym (length-map items piece_value))) in
    c.follows_gives.ensures ∙ rw (c.as_slice.ensures.value, ← c.self.view_is) gives
