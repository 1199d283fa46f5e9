use Rattle.table_text.proofs.CutFacts.{rising-none, cut-none}
use Rattle.table_text.proofs.row.Row.new.Goals as goal

pub invariant_of-result : goal.invariant_of-result
invariant_of-result c = rising-none _ _ c.new-2.ensures.items c.new.ensures.items

pub returns : goal.returns
returns c = cut-none _ _ c.new-2.ensures.items
