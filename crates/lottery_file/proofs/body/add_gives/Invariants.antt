use Rattle.std.proofs.Common.{◌≡◌, ◌++◌, length, map, take}
use Rattle.definitions.specs.Gives.{gives_along}
use Rattle.lottery_file.specs.Written.{give_row}
use Rattle.table_text.specs.Rows.{rows_text}
use Rattle.lottery_file.proofs.body.add_gives.Given as goal

-- the gives of the counts so far
abbrev pub invariant-loop-cell : goal.invariant-loop-cell
invariant-loop-cell l = l.into.items ≡ l.initial.into.items ++ rows_text (map (give_row l.agents l.columns) (gives_along (length l.columns) 0 (take l.cell l.counts)))
