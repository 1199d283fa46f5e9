use Rattle.alloc_cli.proofs.OutcomesLemmas.{outcome_alone}
use Rattle.alloc_cli.proofs.top.one_answer.Goals as goal

pub returns : goal.returns
returns c = outcome_alone
