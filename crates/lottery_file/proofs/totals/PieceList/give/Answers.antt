use Rattle.std.proofs.Common.{◌∙◌, ◌-◌, sym, ap, arith, map}
use Rattle.definitions.specs.Values.{piece_value}
use Rattle.lottery_file.specs.Checks.{weight_sum}
use Rattle.lottery_file.proofs.PieceFacts.{give-last, keep-last, weight-last}
use Rattle.lottery_file.proofs.totals.PieceList.give.Goals as goal

pub invariant_of-self : goal.invariant_of-self
invariant_of-self c =
    c.self.invariant ∙ sym (ap weight_sum (keep-last c.self.inside.list.items (c.len-n.result - 1) c.index_mut-piece.result.now c.push.new.self c.index_mut-piece.ensures.value c.in_err-push.ensures.items))

pub invariant_of-self-2 : goal.invariant_of-self-2
invariant_of-self-2 c =
    let good = c.in_ok-push.ensures.items in
    c.self.invariant ∙ sym (ap weight_sum (give-last c.self.inside.list.items (c.len-n.result - 1) c.index_mut-piece.result.now c.push.new.self c.args.give (omega arith) c.index_mut-piece.ensures.value good) ∙ weight-last c.args.give (map piece_value c.self.inside.list.items))

pub returns : goal.returns
returns c =
    let good = c.in_ok-push.ensures.items in
    rw (← c.self.view_is) (give-last c.self.inside.list.items (c.len-n.result - 1) c.index_mut-piece.result.now c.push.new.self c.args.give (omega arith) c.index_mut-piece.ensures.value good)
