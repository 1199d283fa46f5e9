use Rattle.alloc_audits.proofs.EnvyLemmas.{envy_row-filled}
use Rattle.alloc_audits.proofs.envy.put_entries.Goals as goal

pub row_bytes-requires : goal.row_bytes-requires
row_bytes-requires c = envy_row-filled _ _ _ c.in_ok-row.ensures
