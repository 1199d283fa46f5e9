use Rattle.std.proofs.Common.{◌≡◌, take, drop}
use Rattle.definitions.specs.Firsts.{fault_after}
use Rattle.alloc_input.specs.Matrices.{check_matrix, matrix_fault}
use Rattle.alloc_input.specs.MatrixReading.{AreLimited, IsMatrixAfter}
use Rattle.alloc_input.specs.Prefs.{check_end}
use Rattle.alloc_input.proofs.matrix.read_matrix_records.Given as goal

abbrev pub invariant-loop-i : goal.invariant-loop-i
invariant-loop-i l = record {
  lawful : matrix_fault l.rows ≡ fault_after check_matrix check_end (take l.i l.rows) (drop l.i l.rows);
  after : IsMatrixAfter (take l.i l.rows) l.state;
  limited : AreLimited l.state.entries.items;
}
