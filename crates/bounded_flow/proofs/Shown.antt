-- What a net shows, from its fields.
use Rattle.std.proofs.Common.{◌≡◌, ℕ, ◌+◌, ◌-◌, ◌*◌, ◌<◌, ◌≤◌, [], length, get_or, sym, ap, ◌∙◌, subst, arith}
use Rattle.std.proofs.lemmas.Option.{unwrap_or-slice_get}
use Rattle.definitions.specs.Sets.{set_sum, unit_at, cells_at}
use Rattle.bounded_flow.specs.declared.edge.Edge.{Edge}
use Rattle.bounded_flow.specs.declared.net.Net.TheInside.{Inside}
use Rattle.bounded_flow.specs.Edges.{rest_of}
use Rattle.bounded_flow.specs.Flows.{Balanced}
use Rattle.bounded_flow.specs.Nets.{NetValue, IsNet, set_cells_of, net_sets}
use Rattle.bounded_flow.specs.Webs.{IsWeb, held_sets, node_count}
use Rattle.bounded_flow.proofs.Webs.{cell_values, net_lawful, value_of_set}

-- what contracts see of the fields
abbrev pub shown : Inside → NetValue
shown n = record {
  agents = n.agents;
  columns = n.columns;
  sets = held_sets n.sets.items;
  rest = cell_values (rest_of n.left) (n.agents * n.columns) n.edges.items;
  left = n.left;
  whole = cell_values (λ e. e.whole) (n.agents * n.columns) n.edges.items;
}

-- what is true of the fields
abbrev pub IsHeld : Inside → Type 0
IsHeld n = IsWeb n.agents n.columns n.left (held_sets n.sets.items) n.edges.items n.adjacency n.search

-- what is shown is lawful
pub shown_lawful : (n : Inside) (v : NetValue) → shown n ≡ v → IsHeld n → IsNet v
shown_lawful n v is web = subst IsNet is (net_lawful n.agents n.columns n.left (held_sets n.sets.items) n.edges.items n.adjacency n.search web)

-- the edge of a set has the sum of the set
set_value : (val : Edge → ℕ) (n : Inside) (set : ℕ) (d : Edge) → IsHeld n → Balanced val n.edges.items (node_count (held_sets n.sets.items)) → 0 < set → set ≤ length (held_sets n.sets.items)
    → val (get_or n.edges.items (n.agents * n.columns + set - 1) d) ≡ set_sum (unit_at n.columns (cell_values val (n.agents * n.columns) n.edges.items)) (cells_at (set_cells_of (held_sets n.sets.items)) set)
set_value val n set d web balanced low high =
    let sets = held_sets n.sets.items in
    let at : n.agents * n.columns + (set - 1) ≡ n.agents * n.columns + set - 1 = omega arith in
    let cells : get_or (set_cells_of sets) (set - 1) [] ≡ cells_at (set_cells_of sets) set = sym (unwrap_or-slice_get (set_cells_of sets) (set - 1) []) in
    ap (λ j. val (get_or n.edges.items j d)) (sym at)
    ∙ sym (value_of_set n.agents n.columns n.left sets n.edges.items n.adjacency n.search web val balanced (set - 1) [] d (omega arith))
    ∙ ap (set_sum (unit_at n.columns (cell_values val (n.agents * n.columns) n.edges.items))) cells

pub shown_set_whole : (n : Inside) (v : NetValue) (set : ℕ) (d : Edge) → shown n ≡ v → IsHeld n → 0 < set → set ≤ length v.sets
    → (get_or n.edges.items (n.agents * n.columns + set - 1) d).whole ≡ set_sum (unit_at v.columns v.whole) (cells_at (net_sets v) set)
shown_set_whole n v set d is web low high =
    let many = ap (λ (u : NetValue). length u.sets) is in
    subst (λ (u : NetValue). (get_or n.edges.items (n.agents * n.columns + set - 1) d).whole ≡ set_sum (unit_at u.columns u.whole) (cells_at (net_sets u) set)) is
    (set_value (λ e. e.whole) n set d web web.flow.whole low (omega (arith, many, high)))

pub shown_set_rest : (n : Inside) (v : NetValue) (set : ℕ) (d : Edge) → shown n ≡ v → IsHeld n → 0 < set → set ≤ length v.sets
    → rest_of n.left (get_or n.edges.items (n.agents * n.columns + set - 1) d) ≡ set_sum (unit_at v.columns v.rest) (cells_at (net_sets v) set)
shown_set_rest n v set d is web low high =
    let many = ap (λ (u : NetValue). length u.sets) is in
    subst (λ (u : NetValue). rest_of n.left (get_or n.edges.items (n.agents * n.columns + set - 1) d) ≡ set_sum (unit_at u.columns u.rest) (cells_at (net_sets u) set)) is
    (set_value (rest_of n.left) n set d web web.flow.rests low (omega (arith, many, high)))
