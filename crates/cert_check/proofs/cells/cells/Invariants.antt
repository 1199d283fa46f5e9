use Rattle.std.proofs.Common.{◌≡◌, ◌-◌, length}
use Rattle.definitions.specs.Firsts.{first_in}
use Rattle.cert_check.specs.PieceFaults.{cell_fault_in, pieces_value}
use Rattle.cert_check.proofs.cells.cells.Given as goal

abbrev pub invariant-loop-piece : goal.invariant-loop-piece
invariant-loop-piece l = first_in (cell_fault_in l.x (pieces_value l.pieces)) l.piece (length (pieces_value l.pieces) - l.piece) ≡ first_in (cell_fault_in l.x (pieces_value l.pieces)) 0 (length (pieces_value l.pieces))
