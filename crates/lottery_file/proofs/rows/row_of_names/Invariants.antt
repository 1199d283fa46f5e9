use Rattle.std.proofs.Common.{◌≡◌, ◌∷◌, take}
use Rattle.lottery_file.proofs.rows.row_of_names.Given as goal

-- the names so far
abbrev pub invariant-loop-place : goal.invariant-loop-place
invariant-loop-place l = l.row ≡ l.word ∷ take l.place l.names
