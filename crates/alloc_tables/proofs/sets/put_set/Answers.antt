use Rattle.alloc_tables.proofs.SetsLemmas.{set_row-filled}
use Rattle.alloc_tables.proofs.sets.put_set.Goals as goal

pub row_bytes-requires : goal.row_bytes-requires
row_bytes-requires c = set_row-filled c.in_ok-row.row c.args.number c.unwrap-set.result.now c.parent_number.result c.in_ok-row.ensures
