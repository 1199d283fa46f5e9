-- The graph of two trees: node 0 is the root of both, node s is set s. First come the edges of the cells, row by row, then those of
-- the sets by number.
use Rattle.std.specs.Prelude.{ℕ, ◌==◌, ◌++◌, List, length, map, Option, unwrap_or, if◌then◌else◌}
use Rattle.std.specs.List.{range_with_len}
use Rattle.definitions.specs.declared.Cell.{Cell}
use Rattle.definitions.specs.Sets.{FamilyValue, all_cells, set_side}
use Rattle.definitions.specs.Trees.{TreesValue, parent_at, deepest_at}

-- the node of a set, or the root
abbrev pub node_of : Option ℕ → ℕ
node_of o = unwrap_or o 0

-- a cell leads from its deepest set of side 1 to its deepest set of side 2
abbrev pub cell_wire : TreesValue → Cell → ℕ × ℕ
cell_wire t c = (node_of (deepest_at t 1 c), node_of (deepest_at t 2 c))

-- a set of side 1 is led to from its parent, a set of side 2 leads to its parent
abbrev pub set_wire : FamilyValue → TreesValue → ℕ → ℕ × ℕ
set_wire f t s = if set_side f s == 1 then (node_of (parent_at t s), s) else (s, node_of (parent_at t s))

-- the ends of the cells' edges
abbrev pub cell_wires : FamilyValue → TreesValue → List (ℕ × ℕ)
cell_wires f t = map (cell_wire t) (all_cells f.agents f.columns)

-- the ends of the edges of the first sets, so many
abbrev pub set_wires : FamilyValue → TreesValue → ℕ → List (ℕ × ℕ)
set_wires f t many = map (set_wire f t) (range_with_len 1 many)

-- the ends of all edges
abbrev pub wires_of : FamilyValue → TreesValue → List (ℕ × ℕ)
wires_of f t = cell_wires f t ++ set_wires f t (length f.sets)
