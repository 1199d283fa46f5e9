use Rattle.std.proofs.Common.{◌≡◌, ◌+◌, ◌<◌, sum, drop}
use Rattle.definitions.specs.Tickets.{piece_of}
use Rattle.seed_draw.specs.Weights.{weights_of}
use Rattle.seed_draw.proofs.piece_in.Given as goal

abbrev pub invariant-loop-place : goal.invariant-loop-place
invariant-loop-place l = record {
  named : piece_of (weights_of l.pieces) l.ticket ≡ l.place + piece_of (drop l.place (weights_of l.pieces)) l.rest;
  below : l.rest < sum (drop l.place (weights_of l.pieces));
}
