use Rattle.scaled_matrix.proofs.Lawful.{shares_are_lawful}
use Rattle.scaled_matrix.proofs.shares.Shares.new.Goals as goal

pub invariant_of-result : goal.invariant_of-result
invariant_of-result c = shares_are_lawful c.args.agents c.args.objects c.args.entries.items c.requires.shape c.requires.limit
