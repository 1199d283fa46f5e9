-- The gaps of edges as keys.
use Rattle.std.specs.Prelude.{◌≡◌, ℕ, ◌<◌, List, length, slice_index_or}
use Rattle.key_queue.specs.declared.key.Falling.{Falling}
use Rattle.bounded_flow.specs.declared.edge.Edge.{Edge}
use Rattle.bounded_flow.specs.Edges.{gap_of}

-- the keys are the gaps of the edges
pub record IsRanked (edges : List Edge) (keys : List Falling) : Type 0 where
  pub many : length keys ≡ length edges
  pub same : (k : ℕ) (d : Edge) (f : Falling) → k < length edges → (slice_index_or keys k f).0 ≡ gap_of (slice_index_or edges k d)
