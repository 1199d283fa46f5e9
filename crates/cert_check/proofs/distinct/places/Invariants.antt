use Rattle.std.proofs.Common.{◌≡◌, ℕ, ◌<◌, length, slice_index}
use Rattle.cert_check.proofs.distinct.places.Given as goal

abbrev pub invariant-loop-place : goal.invariant-loop-place
invariant-loop-place l = record {
  many : length l.list.items ≡ l.place;
  each : (k : ℕ) → k < l.place → slice_index l.list.items k ≡ k;
}
