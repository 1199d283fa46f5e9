use Rattle.alloc_audits.proofs.SplitAudits.{split_passes}
use Rattle.alloc_audits.proofs.laws.splits_pass.Goals as goal

pub returns : goal.returns
returns c = λ given x f l h s. split_passes given x f l h.shares h.scaled h.matrix h.agents h.columns h.family s
