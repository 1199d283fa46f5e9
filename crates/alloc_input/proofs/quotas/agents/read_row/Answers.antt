use Rattle.std.proofs.Common.{rules}
use Rattle.alloc_input.specs.Quotas.{row_words}
use Rattle.alloc_input.proofs.Stops.{handed-on}
use Rattle.alloc_input.proofs.quotas.agents.read_row.Goals as goal

pub returns-in_err-quotas-clause-checked : goal.returns-in_err-quotas-clause-checked
unfolding row_words
returns-in_err-quotas-clause-checked c = λ objects solve. handed-on _ _ _ _ c.from_residual-in_err-quotas.ensures.1 (search rules)

pub returns-in_err-need-clause-checked : goal.returns-in_err-need-clause-checked
unfolding row_words
returns-in_err-need-clause-checked c = λ objects solve. handed-on _ _ _ _ c.from_residual-in_err-need.ensures.1 (search rules)
