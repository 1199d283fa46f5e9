use Rattle.std.proofs.Common.{◌≡◌, ◌++◌, map, take}
use Rattle.table_text.specs.Rows.{rows_text}
use Rattle.alloc_tables.specs.Sides.{ring_row}
use Rattle.alloc_tables.proofs.sides.put_ring.Given as goal

-- the records of the sets so far
abbrev pub invariant-loop-set : goal.invariant-loop-set
invariant-loop-set l = l.into.items ≡ l.initial.into.items ++ rows_text (map ring_row (take l.set-index l.ring))
