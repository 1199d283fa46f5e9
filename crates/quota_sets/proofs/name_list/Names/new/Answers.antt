use Rattle.quota_sets.proofs.NameLemmas.{AreNames-nil}
use Rattle.quota_sets.proofs.name_list.Names.new.Goals as goal

pub invariant_of-result : goal.invariant_of-result
invariant_of-result c = rw c.new.ensures.empty AreNames-nil
