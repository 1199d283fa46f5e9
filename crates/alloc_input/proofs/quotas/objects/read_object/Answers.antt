use Rattle.std.proofs.Common.{rules}
use Rattle.alloc_input.specs.Quotas.{object_words}
use Rattle.alloc_input.proofs.Stops.{handed-on}
use Rattle.alloc_input.proofs.quotas.objects.read_object.Goals as goal

pub returns-in_err-need_new-clause-checked : goal.returns-in_err-need_new-clause-checked
unfolding object_words
returns-in_err-need_new-clause-checked c = λ agents. handed-on _ _ _ _ c.from_residual-in_err-need_new.ensures.1 (search rules)

pub returns-in_err-quotas-clause-checked : goal.returns-in_err-quotas-clause-checked
unfolding object_words
returns-in_err-quotas-clause-checked c = λ agents. handed-on _ _ _ _ c.from_residual-in_err-quotas.ensures.1 (search rules)

pub returns-in_err-need-3-clause-checked : goal.returns-in_err-need-3-clause-checked
unfolding object_words
returns-in_err-need-3-clause-checked c = λ agents. handed-on _ _ _ _ c.from_residual-in_err-need-3.ensures.1 (search rules)

pub returns-in_err-need-4-clause-checked : goal.returns-in_err-need-4-clause-checked
unfolding object_words
returns-in_err-need-4-clause-checked c = λ agents. handed-on _ _ _ _ c.from_residual-in_err-need-4.ensures.1 (search rules)
