use Rattle.std.proofs.Common.{◌≡◌, ◌-◌}
use Rattle.definitions.specs.Firsts.{first_in}
use Rattle.cert_check.specs.PieceFaults.{cell_look, pieces_value}
use Rattle.cert_check.proofs.cells.cells_in_row.Given as goal

abbrev pub invariant-loop-object : goal.invariant-loop-object
invariant-loop-object l = first_in (cell_look l.x (pieces_value l.pieces) l.piece l.agent) l.object (l.x.columns - l.object) ≡ first_in (cell_look l.x (pieces_value l.pieces) l.piece l.agent) 0 l.x.columns
