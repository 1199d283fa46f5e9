-- Edges as they are made: without units, and then with all units of a matrix; and their ends by node.
use Rattle.std.specs.Prelude.{◌≡◌, ℕ, ◌+◌, ◌-◌, ◌<◌, ◌≤◌, List, [], ◌∷◌, length, map, take, sum, All, slice_index, slice_index_or, slice_set}
use Rattle.std.specs.List.{Contains}
use Rattle.bounded_flow.specs.declared.edge.Edge.{Edge}
use Rattle.bounded_flow.specs.declared.search.End.{End}
use Rattle.bounded_flow.specs.Edges.{gap_of, wire}
use Rattle.bounded_flow.specs.Flows.{Balanced}

-- an edge with these ends and nothing on it
abbrev pub empty_edge : ℕ × ℕ → Edge
empty_edge w = record { tail = w.0; head = w.1; whole = 0; under = 0; over = 0 }

-- the edge has no whole units, and isn't over
abbrev pub IsUnused : Edge → Type 0
IsUnused e = (e.whole ≡ 0) × (e.over ≡ 0)

-- edges with these ends and no whole units yet, each cell's edge under by its units, in balance over n nodes
pub record IsLoaded (n : ℕ) (ws : List (ℕ × ℕ)) (units : List ℕ) (edges : List Edge) : Type 0 where
  pub wires : map wire edges ≡ ws
  pub empty : All IsUnused edges
  pub cells : map (λ e. e.under) (take (length units) edges) ≡ units
  pub balanced : Balanced (λ e. e.under) edges n
  pub few : All (λ e. e.under ≤ sum units) edges

-- so many units more on one edge
abbrev pub raised : ℕ → ℕ → List Edge → List Edge
raised units b edges = let e = slice_index_or edges b (empty_edge (0, 0)) in slice_set edges b (record e { under = e.under + units })

-- so many units more on the edge of each of these sets
abbrev pub climbed : ℕ → ℕ → List ℕ → List Edge → List Edge
climbed cells units [] edges = edges
climbed cells units (s ∷ sets) edges = climbed cells units sets (raised units (cells + s - 1) edges)

-- both ends of those of the first edges, so many, that have a gap
pub record AreEnds (edges : List Edge) (many : ℕ) (ends : List End) : Type 0 where
  pub known : All (λ e. e.edge < many) ends
  pub tails : (b : ℕ) (e : Edge) → b < many → 0 < gap_of (slice_index_or edges b e) → Contains ends (record { node = (slice_index_or edges b e).tail; edge = b })
  pub heads : (b : ℕ) (e : Edge) → b < many → 0 < gap_of (slice_index_or edges b e) → Contains ends (record { node = (slice_index_or edges b e).head; edge = b })

-- for each of the first n nodes the place from which on no smaller node stands
pub record AreFirsts (n : ℕ) (ends : List End) (first : List ℕ) : Type 0 where
  pub many : length first ≡ n
  pub before : (v k : ℕ) (d : End) → v < n → k < slice_index first v → k < length ends → (slice_index_or ends k d).node < v
  pub after : (v k : ℕ) (d : End) → v < n → slice_index first v ≤ k → k < length ends → v ≤ (slice_index_or ends k d).node
