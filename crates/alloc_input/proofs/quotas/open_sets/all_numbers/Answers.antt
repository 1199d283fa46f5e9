use Rattle.std.proofs.Common.{◌≡◌, ◌∙◌, sym, arith}
use Rattle.alloc_input.proofs.Ranges.{range_more}
use Rattle.alloc_input.proofs.quotas.open_sets.all_numbers.Goals as goal

pub loop-i-preserved : goal.loop-i-preserved
loop-i-preserved c =
    c.in_ok-push.ensures.items ∙ rw c.loop-i.invariant (sym (range_more 0 c.loop-i.i c.loop-i.i (omega arith)))

pub returns : goal.returns
returns c = let e : c.loop-i.i ≡ c.args.n = omega arith in rw e at c.loop-i.invariant
