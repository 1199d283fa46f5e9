use Rattle.table_text.proofs.CutFacts.{rising-none, cut-none}
use Rattle.table_text.proofs.row.Row.clear.Goals as goal

pub invariant_of-self : goal.invariant_of-self
invariant_of-self c = rising-none _ _ c.clear-2.ensures.items c.clear.ensures.items

pub returns : goal.returns
returns c = cut-none _ _ c.clear-2.ensures.items
