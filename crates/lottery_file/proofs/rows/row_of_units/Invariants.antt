use Rattle.std.proofs.Common.{◌≡◌, ◌*◌, ◌∷◌, map, take, drop}
use Rattle.std.specs.Prelude.{codes, decimal}
use Rattle.lottery_file.proofs.rows.row_of_units.Given as goal

-- the units so far
abbrev pub invariant-loop-object : goal.invariant-loop-object
invariant-loop-object l = l.row ≡ codes "row" ∷ l.name ∷ map decimal (take l.object (drop (l.agent * l.shares.columns) l.shares.units))
