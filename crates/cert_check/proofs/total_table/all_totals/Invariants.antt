use Rattle.std.proofs.Common.{◌≡◌, ℕ, ◌*◌, ◌<◌, length, take}
use Rattle.std.specs.Prelude.{slice_index}
use Rattle.definitions.specs.Sets.{cell_of}
use Rattle.cert_check.specs.PieceFaults.{given_units, pieces_value}
use Rattle.cert_check.specs.TotalTables.{place_at}
use Rattle.cert_check.proofs.total_table.all_totals.Given as goal

abbrev pub invariant-loop-piece : goal.invariant-loop-piece
invariant-loop-piece l = record {
  many : length l.table.items ≡ l.x.agents * 201;
  totals : (i a : ℕ) → i < l.x.agents → a < 201 → slice_index l.table.items (place_at i a) ≡ given_units (take l.piece (pieces_value l.pieces)) (cell_of i a);
}
