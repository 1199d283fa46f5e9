-- Where the edges of cells and sets stand, which cell stands at a place, and the lists that grow by one edge or set.
use Rattle.std.proofs.Common.{◌≡◌, ℕ, zero, suc, ◌+◌, ◌-◌, ◌*◌, ◌/◌, ◌%◌, ◌<◌, ◌∙◌, List, [], ◌∷◌, ◌++◌, Some, length, map, take, get_or, cond, Bool, true, false, refl, ap, sym, arith, length-append}
use Rattle.std.specs.Prelude.{slice_get}
use Rattle.std.proofs.Math.Nat.{div-lt_iff_lt-mul}
use Rattle.std.proofs.lemmas.List.{append_assoc, map_push, map_more, length-map, get_or-map, get_or-append_right}
use Rattle.std.proofs.lemmas.List.FromFn.{get_or-map-range_with_len, map-range_with_len_more, length-map-range_with_len}
use Rattle.std.proofs.lemmas.Option.{get_or_from_slice_get, slice_get_within}
use Rattle.definitions.specs.declared.Cell.{Cell}
use Rattle.definitions.specs.Sets.{SetValue, FamilyValue, cell_of, cell_index, all_cells, IsSet, IsCellWithin}
use Rattle.definitions.specs.Rounding.{SideSet}
use Rattle.definitions.specs.Trees.{TreesValue}
use Rattle.definitions.proofs.Cells.{cell_in_place, cell_count}
use Rattle.bounded_flow.specs.declared.edge.Edge.{Edge}
use Rattle.bounded_flow.specs.declared.held.HeldSet.{HeldSet}
use Rattle.bounded_flow.specs.Loads.{empty_edge}
use Rattle.bounded_flow.specs.Nets.{side_set}
use Rattle.bounded_flow.specs.Webs.{held_set, held_sets}
use Rattle.bounded_flow.specs.Wires.{cell_wire, set_wire, cell_wires, set_wires, wires_of}

-- nothing, whatever the test
pub nothing_either_way : (b : Bool) → cond {A = ℕ} b 0 0 ≡ 0
nothing_either_way true = refl
nothing_either_way false = refl

-- a matrix with a cell has a column
pub some_column : (agents columns place : ℕ) → place < agents * columns → 0 < columns
some_column agents zero place h = absurd (omega arith)
some_column agents (suc columns) place h = omega arith

-- the cell at a place is within the matrix
pub place_within : (agents columns place : ℕ) → place < agents * columns → IsCellWithin agents columns (cell_of (place / columns) (place % columns))
place_within agents columns place h = let some = some_column agents columns place h in ((div-lt_iff_lt-mul some).1 h, omega arith)

-- its index is the place
pub place_back : (agents columns place : ℕ) → place < agents * columns → place ≡ cell_index columns (cell_of (place / columns) (place % columns))
place_back agents columns place h = let some = some_column agents columns place h in grind arith

-- the cell at a place
pub cell_of_place : (agents columns place : ℕ) (d : Cell) → place < agents * columns → get_or (all_cells agents columns) place d ≡ cell_of (place / columns) (place % columns)
cell_of_place agents columns place d h =
    let inside = place_within agents columns place h in
    ap (λ k. get_or (all_cells agents columns) k d) (place_back agents columns place h) ∙ cell_in_place agents columns (place / columns) (place % columns) d inside.0 inside.1

-- the cell at a place of a family's matrix
abbrev pub place_cell : FamilyValue → ℕ → Cell
place_cell f i = cell_of (i / f.columns) (i % f.columns)

-- so many edges of cells
pub cell_wires_many : (f : FamilyValue) (t : TreesValue) → length (cell_wires f t) ≡ f.agents * f.columns
cell_wires_many f t = length-map (all_cells f.agents f.columns) (cell_wire t) ∙ cell_count f.agents f.columns

-- so many edges
pub wires_many : (f : FamilyValue) (t : TreesValue) → length (wires_of f t) ≡ f.agents * f.columns + length f.sets
wires_many f t =
    let cells = cell_wires_many f t in
    let sets = length-map-range_with_len (set_wire f t) 1 (length f.sets) in
    omega (arith, length-append (cell_wires f t) (set_wires f t (length f.sets)), cells, sets)

-- the edge of the cell at a place
pub cell_wire_at : (f : FamilyValue) (t : TreesValue) (place : ℕ) (w : ℕ × ℕ) → place < f.agents * f.columns
    → get_or (cell_wires f t) place w ≡ cell_wire t (place_cell f place)
cell_wire_at f t place w h =
    let c = place_cell f place in
    get_or-map (cell_wire t) (all_cells f.agents f.columns) place c w (omega (arith, h, cell_count f.agents f.columns))
    ∙ ap (cell_wire t) (cell_of_place f.agents f.columns place c h)

-- one cell's edge more
pub more_cells : (f : FamilyValue) (t : TreesValue) (before edges : List Edge) (e : Edge) (place : ℕ) → place < f.agents * f.columns
    → edges ≡ before ++ map empty_edge (take place (cell_wires f t)) → e ≡ empty_edge (cell_wire t (place_cell f place))
    → edges ++ e ∷ [] ≡ before ++ map empty_edge (take (place + 1) (cell_wires f t))
more_cells f t before edges e place h same one =
    let d : ℕ × ℕ = (0, 0) in
    let next = ap empty_edge (cell_wire_at f t place d h) in
    ap (λ (es : List Edge). es ++ e ∷ []) same
    ∙ append_assoc before (map empty_edge (take place (cell_wires f t))) (e ∷ [])
    ∙ ap (λ (x : Edge). before ++ (map empty_edge (take place (cell_wires f t)) ++ x ∷ [])) (one ∙ sym next)
    ∙ ap (λ (es : List Edge). before ++ es) (sym (map_more empty_edge (cell_wires f t) place d (omega (arith, h, cell_wires_many f t))))

-- one set's edge more
pub more_sets : (f : FamilyValue) (t : TreesValue) (edges : List Edge) (e : Edge) (s : ℕ) → 0 < s
    → edges ≡ map empty_edge (cell_wires f t ++ set_wires f t (s - 1)) → e ≡ empty_edge (set_wire f t s)
    → edges ++ e ∷ [] ≡ map empty_edge (cell_wires f t ++ set_wires f t (s + 1 - 1))
more_sets f t edges e s some same one =
    let n : s - 1 + 1 ≡ s + 1 - 1 = omega arith in
    let place : 1 + (s - 1) ≡ s = omega arith in
    ap (λ (es : List Edge). es ++ e ∷ []) same
    ∙ ap (λ (x : Edge). map empty_edge (cell_wires f t ++ set_wires f t (s - 1)) ++ x ∷ []) one
    ∙ sym (map_push empty_edge (cell_wires f t ++ set_wires f t (s - 1)) (set_wire f t s))
    ∙ ap (map empty_edge) (append_assoc (cell_wires f t) (set_wires f t (s - 1)) (set_wire f t s ∷ [])
    ∙ ap (λ (ws : List (ℕ × ℕ)). cell_wires f t ++ ws) (sym (map-range_with_len_more (set_wire f t) 1 (s - 1) s place)) ∙ ap (λ k. cell_wires f t ++ set_wires f t k) n)

-- one held set more
pub more_held : (f : FamilyValue) (sets : List HeldSet) (h : HeldSet) (q : SetValue) (s : ℕ) → 0 < s
    → held_sets sets ≡ map side_set (take (s - 1) f.sets) → slice_get f.sets (s - 1) ≡ Some q → held_set h ≡ side_set q
    → held_sets (sets ++ h ∷ []) ≡ map side_set (take (s + 1 - 1) f.sets)
more_held f sets h q s some same found one =
    let n : s - 1 + 1 ≡ s + 1 - 1 = omega arith in
    map_push held_set sets h
    ∙ ap (λ (xs : List SideSet). xs ++ held_set h ∷ []) same
    ∙ ap (λ (x : SideSet). map side_set (take (s - 1) f.sets) ++ x ∷ []) (one ∙ ap side_set (sym (get_or_from_slice_get f.sets (s - 1) q q found)))
    ∙ sym (map_more side_set f.sets (s - 1) q (slice_get_within f.sets (s - 1) q found))
    ∙ ap (λ k. map side_set (take k f.sets)) n

-- the edge of a set
pub set_wire_at : (f : FamilyValue) (t : TreesValue) (s : ℕ) (w : ℕ × ℕ) → IsSet f s → get_or (wires_of f t) (f.agents * f.columns + s - 1) w ≡ set_wire f t s
set_wire_at f t s w known =
    let low = known.0 in
    let high = known.1 in
    get_or-append_right (cell_wires f t) (set_wires f t (length f.sets)) (f.agents * f.columns) (f.agents * f.columns + s - 1) w (cell_wires_many f t) (omega arith)
    ∙ get_or-map-range_with_len (set_wire f t) 1 (length f.sets) (f.agents * f.columns + s - 1 - f.agents * f.columns) s w (omega arith) (omega arith)
