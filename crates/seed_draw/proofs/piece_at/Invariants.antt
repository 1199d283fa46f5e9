use Rattle.std.proofs.Common.{◌≡◌, ◌+◌, ◌<◌, sum, drop}
use Rattle.definitions.specs.Tickets.{piece_of}
use Rattle.seed_draw.proofs.piece_at.Given as goal

abbrev pub invariant-loop-index : goal.invariant-loop-index
invariant-loop-index l = record {
  named : piece_of l.weights l.ticket ≡ l.index + piece_of (drop l.index l.weights) l.rest;
  below : l.rest < sum (drop l.index l.weights);
}
