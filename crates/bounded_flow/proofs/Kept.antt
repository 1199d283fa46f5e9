-- A net stays a net when its edges keep their wires and remainders, and when a weight is taken off.
use Rattle.std.proofs.Common.{◌≡◌, ℕ, ◌+◌, ◌*◌, ◌<◌, ◌≤◌, ◌^◌, List, length, map, take, get_or, sym, ap, ◌∙◌, subst, arith, All}
use Rattle.std.specs.Prelude.{sum}
use Rattle.std.proofs.lemmas.List.{take-map}
use Rattle.std.proofs.lemmas.List.Elements.{recursion_from_All, All-take}
use Rattle.std.proofs.lemmas.List.Sums.{sum-map}
use Rattle.definitions.specs.Rounding.{SideSet}
use Rattle.definitions.proofs.Sums.{sum_le_all}
use Rattle.bounded_flow.specs.declared.edge.Edge.{Edge}
use Rattle.bounded_flow.specs.declared.search.Adjacency.{Adjacency}
use Rattle.bounded_flow.specs.declared.search.Search.{Search}
use Rattle.bounded_flow.specs.Edges.{rest_of, gap_of, wire}
use Rattle.bounded_flow.specs.Flows.{Adds, IsFlow}
use Rattle.bounded_flow.specs.Nets.{set_cells_of}
use Rattle.bounded_flow.specs.Searches.{IsAdjacency, HasRoom}
use Rattle.bounded_flow.specs.Webs.{IsWeb, node_count}
use Rattle.bounded_flow.proofs.Balances.{wires_many}
use Rattle.bounded_flow.proofs.Takes.{rests_kept, flow_kept}
use Rattle.bounded_flow.proofs.Webs.{cell_values, value_of_cell, nothing}

-- what the cells have stays where it stays at each edge
pub values_kept : (val : Edge → ℕ) (cells : ℕ) (new old : List Edge) → map val new ≡ map val old → cell_values val cells new ≡ cell_values val cells old
values_kept val cells new old e = sym (take-map val cells new) ∙ ap (take cells) e ∙ take-map val cells old

module _ (agents columns left : ℕ) (sets : List SideSet) (edges : List Edge) (adjacency : Adjacency) (search : Search) (web : IsWeb agents columns left sets edges adjacency search) where
  -- with other edges of the same wires and remainders
  pub web_with : (new : List Edge) (a : Adjacency) (s : Search) → map wire new ≡ map wire edges → map (rest_of left) new ≡ map (rest_of left) edges → IsFlow left (node_count sets) new → IsAdjacency (node_count sets) a new → HasRoom (node_count sets) s
      → IsWeb agents columns left sets new a s
  web_with new a s wires rests flow adjacent room = record {
    lawful = web.lawful;
    left_limit = web.left_limit;
    many = wires_many new edges wires ∙ web.many;
    flow = flow;
    adds = subst (Adds columns (agents * columns) (set_cells_of sets)) (sym wires) web.adds;
    adjacent = adjacent;
    room = room;
    total = subst (λ (t : ℕ). t ≤ 1000 * 2 ^ 116) (sum-map (rest_of left) (take (agents * columns) new))
        (subst (λ (values : List ℕ). sum values ≤ 1000 * 2 ^ 116) (sym (values_kept (rest_of left) (agents * columns) new edges rests))
        (subst (λ (t : ℕ). t ≤ 1000 * 2 ^ 116) (sym (sum-map (rest_of left) (take (agents * columns) edges))) web.total));
  }

  -- after a weight w is taken off, where k is left
  module _ (w k : ℕ) (split : w + k ≡ left) (near : All (λ e. gap_of e ≤ k) edges) where
    kept : All (λ e. rest_of k e + w * e.whole ≡ rest_of left e) edges
    kept = rests_kept left w k (node_count sets) edges split web.flow near

    pub web_taken : IsWeb agents columns k sets edges adjacency search
    web_taken = record {
      lawful = web.lawful;
      left_limit = (let limit = web.left_limit in omega (arith, limit, split));
      many = web.many;
      flow = flow_kept left w k (node_count sets) edges split web.flow near;
      adds = web.adds;
      adjacent = web.adjacent;
      room = web.room;
      total =
          let less = sum_le_all (λ (e : Edge). rest_of k e + w * e.whole ≡ rest_of left e) (rest_of k) (rest_of left) (take (agents * columns) edges) (λ e is. omega (arith, is))
          (recursion_from_All (λ (e : Edge). rest_of k e + w * e.whole ≡ rest_of left e) (take (agents * columns) edges) (All-take (λ (e : Edge). rest_of k e + w * e.whole ≡ rest_of left e) (agents * columns) edges kept)) in
          let limit = web.total in
          omega (arith, less, limit);
    }

    -- each cell is lessened by the weight times its whole units
    pub cell_taken : (i : ℕ) → i < agents * columns → get_or (cell_values (rest_of k) (agents * columns) edges) i 0 + w * get_or (cell_values (λ e. e.whole) (agents * columns) edges) i 0 ≡ get_or (cell_values (rest_of left) (agents * columns) edges) i 0
    cell_taken i h =
        let m = web.many in
        let enough : agents * columns ≤ length edges = omega (arith, m) in
        let is = kept i nothing (omega (arith, h, enough)) in
        let units = ap (λ t. w * t) (value_of_cell (λ e. e.whole) (agents * columns) i nothing edges enough h) in
        omega (arith, is, units, value_of_cell (rest_of k) (agents * columns) i nothing edges enough h, value_of_cell (rest_of left) (agents * columns) i nothing edges enough h)
