-- Flows: numbers on edges that are in balance at each node, and what repairs keep.
use Rattle.std.specs.Prelude.{◌≡◌, ℕ, ◌+◌, ◌<◌, ◌⊎◌, ◌==◌, List, length, map, take, All, Some, sum_by, slice_get, slice_index_or, if◌then◌else◌}
use Rattle.definitions.specs.declared.Cell.{Cell}
use Rattle.definitions.specs.Sets.{set_sum, unit_at}
use Rattle.bounded_flow.specs.declared.edge.Edge.{Edge}
use Rattle.bounded_flow.specs.Edges.{rest_of, gap_of, enters, wire, IsSound, Pushed}

-- what the edges that begin at a node carry
abbrev pub out_of : (Edge → ℕ) → List Edge → ℕ → ℕ
out_of val edges v = sum_by (λ e. if e.tail == v then val e else 0) edges

-- what the edges that end at a node carry
abbrev pub into : (Edge → ℕ) → List Edge → ℕ → ℕ
into val edges v = sum_by (λ e. if e.head == v then val e else 0) edges

-- at each of n nodes as much comes in as goes out
abbrev pub Balanced : (Edge → ℕ) → List Edge → ℕ → Type 0
Balanced val edges n = (v : ℕ) → v < n → out_of val edges v ≡ into val edges v

-- the edges are in balance but for an amount, which `from` lacks on its way out and `to` on its way in
pub record Owes (val : Edge → ℕ) (edges : List Edge) (n from to amount : ℕ) : Type 0 where
  pub at : (v : ℕ) → v < n → out_of val edges v + (if from == v then amount else 0) ≡ into val edges v + (if to == v then amount else 0)

-- on edges with these wires, whatever is in balance adds up: each set's edge, after the cells' edges, carries the sum over the set's cells
abbrev pub Adds : ℕ → ℕ → List (List Cell) → List (ℕ × ℕ) → Type 0
Adds columns cells sets wires = (edges : List Edge) (val : Edge → ℕ) → map wire edges ≡ wires → Balanced val edges (length sets + 1)
    → (k : ℕ) (s : List Cell) (e : Edge) → slice_get sets k ≡ Some s
    → val (slice_index_or edges (cells + k) e) ≡ set_sum (unit_at columns (map val (take cells edges))) s

-- both ends of an edge are among n nodes
abbrev pub IsInside : ℕ → Edge → Type 0
IsInside n e = (e.tail < n) × (e.head < n)

-- sound edges over n nodes whose whole units are in balance, and whose remainders are
pub record IsFlow (left n : ℕ) (edges : List Edge) : Type 0 where
  pub inside : All (IsInside n) edges
  pub sound : All (IsSound left) edges
  pub whole : Balanced (λ e. e.whole) edges n
  pub rests : Balanced (rest_of left) edges n

-- what repairs keep: the wires, the remainders, each gap below the weight left, and each edge without a gap
pub record IsRepair (left : ℕ) (old new : List Edge) : Type 0 where
  pub wires : map wire new ≡ map wire old
  pub rests : map (rest_of left) new ≡ map (rest_of left) old
  pub calm : (b : ℕ) (d : Edge) → b < length old → gap_of (slice_index_or old b d) < left → gap_of (slice_index_or new b d) < left
  pub even : (b : ℕ) (d : Edge) → b < length old → gap_of (slice_index_or old b d) ≡ 0 → gap_of (slice_index_or new b d) ≡ 0

-- pushes along a way have moved a debt from `to` to `from`: wires and remainders stay, each edge was pushed at most once, and none
-- that brings a unit to `from`
pub record IsWalk (left n to from : ℕ) (old new : List Edge) : Type 0 where
  pub wires : map wire new ≡ map wire old
  pub rests : map (rest_of left) new ≡ map (rest_of left) old
  pub sound : All (IsSound left) new
  pub owes : Owes (λ e. e.whole) new n to from 1
  pub once : (b : ℕ) (d : Edge) → b < length old → (slice_index_or new b d ≡ slice_index_or old b d)
      ⊎ ((0 < gap_of (slice_index_or old b d)) × Pushed left (slice_index_or old b d) (slice_index_or new b d))
  pub untouched : (b : ℕ) (d : Edge) → b < length old → 0 < gap_of (slice_index_or old b d) → enters (slice_index_or old b d) ≡ from
      → slice_index_or new b d ≡ slice_index_or old b d
