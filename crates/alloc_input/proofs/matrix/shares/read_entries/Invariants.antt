use Rattle.std.proofs.Common.{map, take}
use Rattle.definitions.proofs.Passed.{IsLawfulTo}
use Rattle.alloc_input.specs.Matrices.{check_entry, entry_texts, share_in}
use Rattle.alloc_input.specs.MatrixReading.{AddsShares, AreLimited}
use Rattle.alloc_input.proofs.matrix.shares.read_entries.Given as goal

abbrev pub invariant-loop-k : goal.invariant-loop-k
invariant-loop-k l = record {
  lawful : IsLawfulTo (λ _. check_entry) (entry_texts l.columns l.row) l.k;
  added : AddsShares l.initial.entries.items l.entries.items (map share_in (take l.k (entry_texts l.columns l.row)));
  limited : AreLimited l.entries.items;
}
