use Rattle.quota_sets.proofs.RowLemmas.{row_is_lawful}
use Rattle.quota_sets.proofs.rows.row_of.Goals as goal

pub new-requires : goal.new-requires
new-requires c = rw c.in_ok-cells.ensures (row_is_lawful c.args.columns c.args.agent c.args.demand c.requires)
