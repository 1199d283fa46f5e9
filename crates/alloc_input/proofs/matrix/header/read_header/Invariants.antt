use Rattle.std.proofs.Common.{◌≡◌, drop, take}
use Rattle.definitions.proofs.Passed.{IsLawfulTo}
use Rattle.alloc_input.specs.Matrices.{check_heading}
use Rattle.alloc_input.proofs.matrix.header.read_header.Given as goal

abbrev pub invariant-loop-j : goal.invariant-loop-j
invariant-loop-j l = record {
  lawful : IsLawfulTo check_heading (drop 1 l.row) l.j;
  named : l.objects ≡ take l.j (drop 1 l.row);
}
