-- What a net keeps of its fields.
use Rattle.std.specs.Prelude.{◌≡◌, ℕ, ◌+◌, ◌*◌, ◌≤◌, ◌^◌, ◌⊎◌, List, length, map, take, All, sum_by}
use Rattle.definitions.specs.Sets.{IsCellWithin, NoCrossing}
use Rattle.definitions.specs.Rounding.{SideSet}
use Rattle.bounded_flow.specs.declared.edge.Edge.{Edge}
use Rattle.bounded_flow.specs.declared.held.HeldSet.{HeldSet}
use Rattle.bounded_flow.specs.declared.search.Adjacency.{Adjacency}
use Rattle.bounded_flow.specs.declared.search.Search.{Search}
use Rattle.bounded_flow.specs.Edges.{rest_of, wire}
use Rattle.bounded_flow.specs.Flows.{Adds, IsFlow}
use Rattle.bounded_flow.specs.Nets.{set_cells_of}
use Rattle.bounded_flow.specs.Ranks.{IsRanked}
use Rattle.bounded_flow.specs.Searches.{IsAdjacency, HasRoom}
use Rattle.key_queue.specs.declared.key.Falling.{Falling}

-- a held set as its side and its cells
abbrev pub held_set : HeldSet → SideSet
held_set s = record { side = s.side; cells = s.cells.items }

-- the held sets as their sides and cells
abbrev pub held_sets : List HeldSet → List SideSet
held_sets sets = map held_set sets

-- the number of nodes: the root and one for each set
abbrev pub node_count : List SideSet → ℕ
node_count sets = length sets + 1

-- sets of known sides over the cells, few enough, of which no two of one side cross
pub record AreNetSets (agents columns : ℕ) (sets : List SideSet) : Type 0 where
  pub agents_limit : agents ≤ 1000
  pub columns_limit : columns ≤ 201
  pub sets_limit : length sets ≤ 2000
  pub sides : All (λ s. (s.side ≡ 1) ⊎ (s.side ≡ 2)) sets
  pub apart : NoCrossing (map (λ s. s.cells) sets) (map (λ s. s.side) sets)
  pub inside : All (λ s. All (IsCellWithin agents columns) s.cells) sets

-- the edges of cells and sets carry a flow that adds up over each set, with their ends by node and room to search
pub record IsWeb (agents columns left : ℕ) (sets : List SideSet) (edges : List Edge) (adjacency : Adjacency) (search : Search) : Type 0 where
  pub lawful : AreNetSets agents columns sets
  pub left_limit : left ≤ 2 ^ 116
  pub many : length edges ≡ agents * columns + length sets
  pub flow : IsFlow left (node_count sets) edges
  pub adds : Adds columns (agents * columns) (set_cells_of sets) (map wire edges)
  pub adjacent : IsAdjacency (node_count sets) adjacency edges
  pub room : HasRoom (node_count sets) search
  pub total : sum_by (rest_of left) (take (agents * columns) edges) ≤ 1000 * 2 ^ 116

-- and the queue has the gap of each edge
pub record IsRankedWeb (agents columns left : ℕ) (sets : List SideSet) (edges : List Edge) (gaps : List Falling) (adjacency : Adjacency) (search : Search) : Type 0 where
  pub web : IsWeb agents columns left sets edges adjacency search
  pub ranked : IsRanked edges gaps
