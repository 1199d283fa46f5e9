use Rattle.std.proofs.Common.{◌≡◌, ◌++◌, take}
use Rattle.alloc_tables.proofs.table.push_names.Given as goal

-- the names so far
abbrev pub invariant-loop-place : goal.invariant-loop-place
invariant-loop-place l = l.row ≡ l.initial.row ++ take l.place l.names
