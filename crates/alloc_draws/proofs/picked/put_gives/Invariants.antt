use Rattle.std.proofs.Common.{◌≡◌, ◌++◌, map, take}
use Rattle.lottery_file.specs.Written.{give_row}
use Rattle.table_text.specs.Rows.{rows_text}
use Rattle.alloc_draws.proofs.picked.put_gives.Given as goal

-- the records of the gives so far
abbrev pub invariant-loop-give : goal.invariant-loop-give
invariant-loop-give l = l.into.items ≡ l.initial.into.items ++ rows_text (map (give_row l.agents l.columns) (take l.give-index l.gives))
