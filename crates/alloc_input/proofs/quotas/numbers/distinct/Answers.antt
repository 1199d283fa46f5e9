use Rattle.std.proofs.Common.{◌∙◌}
use Rattle.alloc_input.proofs.NumberFacts.{if_ok, distinct-added}
use Rattle.alloc_input.proofs.quotas.numbers.distinct.Goals as goal

pub returns : goal.returns
returns c =
    if_ok c.to_list.result _ _ (λ v e. e ∙ distinct-added c.args.below c.args.numbers.now _ (rw c.new-set.ensures at c.in_ok-add.ensures) c.len-count.ensures.rising) c.to_list.ensures
