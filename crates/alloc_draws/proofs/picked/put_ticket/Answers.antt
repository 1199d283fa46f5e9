use Rattle.std.proofs.Common.{◌≡◌, ℕ, arith, List, [], ◌∷◌, ◌++◌, map, ap, ◌∙◌, length}
use Rattle.std.specs.Prelude.{codes, decimal}
use Rattle.definitions.specs.declared.Give.{Give}
use Rattle.definitions.specs.Values.{piece_value}
use Rattle.lottery_file.specs.Lotteries.{lottery_value}
use Rattle.lottery_file.specs.Written.{give_row}
use Rattle.table_text.specs.Rows.{rows_text}
use Rattle.alloc_draws.proofs.PickedLemmas.{ticket_rows-text}
use Rattle.alloc_draws.proofs.picked.put_ticket.Goals as goal

pub returns : goal.returns
returns c =
    let first = c.in_ok-put_two.ensures.ok ∙ ap (λ (d : ℕ). c.args.into.now.items ++ rows_text ((codes "ticket" ∷ decimal c.args.ticket ∷ decimal d ∷ []) ∷ [])) c.denominator.ensures.value in
    let gives = c.in_ok-put_gives.ensures ∙ ap (λ (gives : List Give). c.put_two-2.new.into.items ++ rows_text (map (give_row c.args.lottery.now.agents c.args.lottery.now.columns) gives)) c.deref.ensures.value in
    let count : c.len.result ≡ length c.args.piece.now.gives.items = omega arith in
    let last = c.in_ok-put_end.ensures.ok ∙ ap (λ (n : ℕ). c.put_gives.new.into.items ++ rows_text ((codes "end" ∷ decimal n ∷ []) ∷ [])) count in
    ticket_rows-text (lottery_value c.args.lottery.now) c.args.ticket c.args.piece_no (piece_value c.args.piece.now) _ _ _ _ _ first c.in_ok-put_two-2.ensures.ok gives last
