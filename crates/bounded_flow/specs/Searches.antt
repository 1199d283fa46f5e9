-- The search for a way from node to node along edges that may be pushed.
use Rattle.std.specs.Prelude.{◌≡◌, ℕ, ◌+◌, ◌<◌, ◌≤◌, ◌^◌, ◌⊎◌, ◌==◌, List, length, count_by, slice_index, slice_index_or}
use Rattle.bounded_flow.specs.declared.edge.Edge.{Edge}
use Rattle.bounded_flow.specs.declared.search.End.{End}
use Rattle.bounded_flow.specs.declared.search.Adjacency.{Adjacency}
use Rattle.bounded_flow.specs.declared.search.Search.{Search}
use Rattle.bounded_flow.specs.Edges.{gap_of, enters, leaves}

-- ends of edges by node, among them both ends of each edge with a gap; and for each of n nodes the place from which on no smaller node stands
pub record IsAdjacency (n : ℕ) (a : Adjacency) (edges : List Edge) : Type 0 where
  pub firsts : length a.first.items ≡ n
  pub known : (k : ℕ) (d : End) → k < length a.ends.items → (slice_index_or a.ends.items k d).edge < length edges
  pub tails : (b : ℕ) (e : Edge) (d : End) → b < length edges → 0 < gap_of (slice_index_or edges b e)
      → (k : ℕ) × (k < length a.ends.items) × (slice_index_or a.ends.items k d ≡ record { node = (slice_index_or edges b e).tail; edge = b })
  pub heads : (b : ℕ) (e : Edge) (d : End) → b < length edges → 0 < gap_of (slice_index_or edges b e)
      → (k : ℕ) × (k < length a.ends.items) × (slice_index_or a.ends.items k d ≡ record { node = (slice_index_or edges b e).head; edge = b })
  pub order : (j k : ℕ) (d : End) → j ≤ k → k < length a.ends.items → (slice_index_or a.ends.items j d).node ≤ (slice_index_or a.ends.items k d).node
  pub before : (v k : ℕ) (d : End) → v < n → k < slice_index a.first.items v → k < length a.ends.items → (slice_index_or a.ends.items k d).node < v
  pub after : (v k : ℕ) (d : End) → v < n → slice_index a.first.items v ≤ k → k < length a.ends.items → v ≤ (slice_index_or a.ends.items k d).node

-- the search has room for n nodes
pub record HasRoom (n : ℕ) (s : Search) : Type 0 where
  pub places : length s.place.items ≡ n
  pub queues : length s.queue.items ≡ n
  pub ways : length s.way.items ≡ n
  pub few : n < 2 ^ 32

-- the seen nodes stand in the queue at their places; the place of a node that wasn't seen is n
pub record Marked (n : ℕ) (place queue : List ℕ) (seen : ℕ) : Type 0 where
  pub places : length place ≡ n
  pub queues : length queue ≡ n
  pub seen_few : seen ≤ n
  pub marked : (v : ℕ) → v < n → ((slice_index place v < seen) × (slice_index queue (slice_index place v) ≡ v)) ⊎ (slice_index place v ≡ n)
  pub queued : (k : ℕ) → k < seen → (slice_index queue k < n) × (slice_index place (slice_index queue k) ≡ k)
  pub counted : seen + count_by (λ p. p == n) place ≡ n

-- node v was reached over an edge that may be pushed from a node with an earlier place
pub record IsWay (edges : List Edge) (n : ℕ) (place way : List ℕ) (v : ℕ) : Type 0 where
  pub inside : slice_index way v < length edges
  pub off : (d : Edge) → 0 < gap_of (slice_index_or edges (slice_index way v) d)
  pub enters_it : (d : Edge) → enters (slice_index_or edges (slice_index way v) d) ≡ v
  pub in_place : (d : Edge) → leaves (slice_index_or edges (slice_index way v) d) < n
  pub earlier : (d : Edge) → slice_index place (leaves (slice_index_or edges (slice_index way v) d)) < slice_index place v

-- what was reached so far: each seen node but the one with place 0 was reached over its way
pub record Reached (edges : List Edge) (n : ℕ) (s : Search) : Type 0 where
  pub room : HasRoom n s
  pub marked : Marked n s.place.items s.queue.items s.seen
  pub ways : (v : ℕ) → v < n → 0 < slice_index s.place.items v → slice_index s.place.items v < s.seen → IsWay edges n s.place.items s.way.items v

-- what was seen keeps its place
pub record IsLater (old new : Search) : Type 0 where
  pub seen : old.seen ≤ new.seen
  pub places : (v : ℕ) → slice_index old.place.items v < old.seen → slice_index new.place.items v ≡ slice_index old.place.items v

-- where edge b may be pushed from this node, it leads to a seen node
abbrev pub IsFollowed : List Edge → Search → ℕ → ℕ → Type 0
IsFollowed edges s node b = (d : Edge) → 0 < gap_of (slice_index_or edges b d) → leaves (slice_index_or edges b d) ≡ node
    → slice_index s.place.items (enters (slice_index_or edges b d)) < s.seen

-- every edge that may be pushed from a node with a place below `taken` leads to a seen node
abbrev pub IsExplored : List Edge → Search → ℕ → Type 0
IsExplored edges s taken = (b : ℕ) (d : Edge) → b < length edges → 0 < gap_of (slice_index_or edges b d)
    → slice_index s.place.items (leaves (slice_index_or edges b d)) < taken → slice_index s.place.items (enters (slice_index_or edges b d)) < s.seen
