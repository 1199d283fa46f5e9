use Rattle.alloc_input.specs.Stated.{add_kind}
use Rattle.alloc_input.specs.Quotas.{check_word}
use Rattle.alloc_input.proofs.quotas.records.take_word.Goals as goal

pub returns-in-Group-clause-checked : goal.returns-in-Group-clause-checked
unfolding check_word add_kind
returns-in-Group-clause-checked c = rw c.in-Group.is (c.take_group.ensures.checked c.args.objects.now c.args.solve)

pub returns-in-Bundle-clause-checked : goal.returns-in-Bundle-clause-checked
unfolding check_word add_kind
returns-in-Bundle-clause-checked c = rw c.in-Bundle.is (c.take_bundle.ensures.checked c.args.agents.now c.args.solve)
