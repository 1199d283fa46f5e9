-- Edges with the units of the first cells of a matrix: in balance, and none with more than all units.
use Rattle.std.proofs.Common.{◌≡◌, ℕ, ◌+◌, ◌-◌, ◌*◌, ◌/◌, ◌%◌, ◌^◌, ◌<◌, ◌≤◌, ◌⊎◌, ◌∙◌, List, [], ◌∷◌, Option, Some, None, length, map, take, get_or, cond, eqb, ltb, Bool, true, false, inl, inr, ap, sym, subst, refl, arith, All, length-set}
use Rattle.std.specs.Prelude.{sum, nat_eq}
use Rattle.std.specs.Set.{is_member}
use Rattle.std.proofs.lemmas.Bool.{lt-ltb, le-ltb, cases_lt, cases_eq}
use Rattle.std.proofs.lemmas.List.{get_or_default, get_or-map, get_or-take, length-map, length-take-le, same_lists, map-id}
use Rattle.std.proofs.lemmas.Simd.{map-map}
use Rattle.std.proofs.lemmas.List.Elements.{All-map}
use Rattle.std.proofs.lemmas.List.Sums.{get_or-le-sum_by}
use Rattle.definitions.specs.declared.Cell.{Cell}
use Rattle.definitions.specs.Sets.{FamilyValue, ScaledValue, units_of, IsFamily, IsSet, IsCellWithin, set_cells, set_side, set_sum, unit_at, cell_of, all_cells}
use Rattle.definitions.specs.Trees.{TreesValue, AreTreesOf, parent_at, deepest_at, chain_of}
use Rattle.definitions.proofs.Cells.{all_within}
use Rattle.definitions.proofs.Families.{known_side}
use Rattle.definitions.proofs.Sums.{sum_same, sum_zero, sum_mapped, sum_le_all, sum_of_units, unit_at_within}
use Rattle.rounding_laws.proofs.Falls.{sum_le_at}
use Rattle.side_laws.proofs.ChainSums.{set_sum_by_chains}
use Rattle.side_laws.proofs.Trees.{IsSetOrNone, parent_known, chain_step, chain_none, chain_distinct, deepest_known, deepest_is}
use Rattle.bounded_flow.specs.declared.edge.Edge.{Edge}
use Rattle.bounded_flow.specs.Edges.{wire}
use Rattle.bounded_flow.specs.Flows.{Balanced, Owes}
use Rattle.bounded_flow.specs.Loads.{IsUnused, empty_edge, raised, climbed, IsLoaded}
use Rattle.bounded_flow.specs.Wires.{node_of, cell_wire, wires_of}
use Rattle.bounded_flow.proofs.Adding.{edges_many, cell_ends, one_ends, two_ends, set_carries}
use Rattle.bounded_flow.proofs.Climbing.{edge_at, side_up, chain_sets, some_of, raised_wires, climbed_wires, raised_unused, climbed_unused, raised_here, raised_other, climbed_off, climbed_bound, raised_first, raised_tail, raised_head}
use Rattle.bounded_flow.proofs.Making.{nothing_either_way, place_cell, place_within, place_back, wires_many}

-- the edges have the units of the first cells, so many, and of no other
pub record IsPart (f : FamilyValue) (t : TreesValue) (units : List ℕ) (many : ℕ) (edges : List Edge) : Type 0 where
  pub wires : map wire edges ≡ wires_of f t
  pub unused : All IsUnused edges
  pub cells : (i : ℕ) (d : Edge) → i < f.agents * f.columns → (get_or edges i d).under ≡ cond (ltb i many) (get_or units i 0) 0
  pub balanced : Balanced (λ e. e.under) edges (length f.sets + 1)

-- before the first cell
pub part_none : (f : FamilyValue) (t : TreesValue) (units : List ℕ) (edges : List Edge) → edges ≡ map empty_edge (wires_of f t) → IsPart f t units 0 edges
part_none f t units edges same =
    let ws = wires_of f t in
    let empty : IsPart f t units 0 (map empty_edge ws) = record {
      wires = map-map wire empty_edge ws ∙ map-id ws;
      unused = All-map IsUnused empty_edge ws (λ k d l. (refl, refl));
      cells = λ i d l. (
          let empty_there : 0 ≡ cond (ltb i 0) (get_or units i 0) 0 = rw (le-ltb i 0 (omega arith)) refl in
          ap (λ (e : Edge). e.under) (get_or-map empty_edge ws i (0, 0) d (let m = wires_many f t in omega arith)) ∙ empty_there);
      balanced = λ v l. (
          let out = sum_mapped (λ (e : Edge). cond (eqb e.tail v) e.under 0) empty_edge ws
          ∙ sum_same (λ (w : ℕ × ℕ). cond (eqb w.0 v) 0 0) (λ w. 0) ws (λ w. nothing_either_way (eqb w.0 v)) ∙ sum_zero ws in
          let in_ = sum_mapped (λ (e : Edge). cond (eqb e.head v) e.under 0) empty_edge ws
          ∙ sum_same (λ (w : ℕ × ℕ). cond (eqb w.1 v) 0 0) (λ w. 0) ws (λ w. nothing_either_way (eqb w.1 v)) ∙ sum_zero ws in
          out ∙ sym in_);
    } in
    subst (IsPart f t units 0) (sym same) empty

-- the units at a place
pub unit_of_place : (f : FamilyValue) (units : List ℕ) (i : ℕ) → i < f.agents * f.columns → unit_at f.columns units (place_cell f i) ≡ get_or units i 0
unit_of_place f units i l =
    unit_at_within f.columns units (place_cell f i) (place_within f.agents f.columns i l).1 ∙ ap (λ k. get_or units k 0) (sym (place_back f.agents f.columns i l))

-- units at one place are at most all
pub unit_small : (units : List ℕ) (i : ℕ) → i < length units → get_or units i 0 ≤ sum units
unit_small units i l = get_or-le-sum_by (λ (n : ℕ). n) units i 0 l

-- one edge raised
raised_bound : (units b most : ℕ) (edges : List Edge) → All (λ e. e.under ≤ most) edges → All (λ e. e.under ≤ most + units) (raised units b edges)
raised_bound units b most edges small k d l =
    let e = edge_at edges b in
    let m = length-set edges b (record e { under = e.under + units }) in
    let inside : k < length edges = omega arith in
    elim (cases_eq k b) [
      | inl same ↦ (
          let here : (get_or (raised units b edges) k d).under ≡ (get_or edges k d).under + units =
          subst (λ n. (get_or (raised units b edges) n d).under ≡ (get_or edges n d).under + units) (sym same) (raised_here units b edges d (omega arith)) in
          omega (arith, here, small k d inside))
      | inr other ↦ omega (arith, ap (λ (e : Edge). e.under) (raised_other units b k edges d other), small k d inside)
    ]

one_more : (i many u x : ℕ) → (i ≡ many → ⊥) → x ≡ cond (ltb i many) u 0 → x ≡ cond (ltb i (many + 1)) u 0
one_more i many u x other e = elim (cases_lt i many) [
  | inl l ↦ (let same : cond (ltb i many) u 0 ≡ cond (ltb i (many + 1)) u 0 = rw (lt-ltb i many l, lt-ltb i (many + 1) (omega arith)) refl in e ∙ same)
  | inr l ↦ (let same : cond (ltb i many) u 0 ≡ cond (ltb i (many + 1)) u 0 = rw (le-ltb i many l, le-ltb i (many + 1) (let far : many < i = elim (cases_eq i many) [ inl same ↦ absurd (other same) | inr differs ↦ omega (arith, differs) ] in omega arith)) refl in e ∙ same)
]

module _ (f : FamilyValue) (family : IsFamily f) (t : TreesValue) (r : AreTreesOf f t) where
  -- up the sets of side 1 the debt moves to the root
  up_one : (sets : List ℕ) (o : Option ℕ) (edges : List Edge) (n from units : ℕ) → chain_of t o ≡ sets → IsSetOrNone f family.lawful t r o
      → ((s : ℕ) → o ≡ Some s → set_side f s ≡ 1) → map wire edges ≡ wires_of f t → Owes (λ e. e.under) edges n from (node_of o) units
      → Owes (λ e. e.under) (climbed (f.agents * f.columns) units sets edges) n from 0 units
  up_one [] None edges n from units e known side wires h = h
  up_one [] (Some s) edges n from units e known side wires h = let step = chain_step f family.lawful t r s (known s refl) in absurd (cc)
  up_one (x ∷ sets) None edges n from units e known side wires h = let step = chain_none t in absurd (cc)
  up_one (x ∷ sets) (Some s) edges n from units e known side wires h =
      let here : IsSet f s = known s refl in
      let step : s ∷ chain_of t (parent_at t s) ≡ x ∷ sets = sym (chain_step f family.lawful t r s here) ∙ e in
      let first : s ≡ x = cc in
      let rest : chain_of t (parent_at t s) ≡ sets = cc in
      let b = f.agents * f.columns + s - 1 in
      let low = here.0 in
      let high = here.1 in
      let many = edges_many f family t r edges wires in
      let one = side s refl in
      subst (λ y. Owes (λ e. e.under) (climbed (f.agents * f.columns) units (y ∷ sets) edges) n from 0 units) first
      (up_one sets (parent_at t s) (raised units b edges) n from units rest (parent_known f family.lawful t r s here)
      (λ p q. side_up f family t r s p here q ∙ one) (raised_wires units b edges ∙ wires)
      (raised_tail units b n from edges (node_of (parent_at t s), s) (omega arith) (one_ends f family t r edges wires s here one) h))

  -- up the sets of side 2 the debt moves from the root
  up_two : (sets : List ℕ) (o : Option ℕ) (edges : List Edge) (n to units : ℕ) → chain_of t o ≡ sets → IsSetOrNone f family.lawful t r o
      → ((s : ℕ) → o ≡ Some s → set_side f s ≡ 2) → map wire edges ≡ wires_of f t → Owes (λ e. e.under) edges n (node_of o) to units
      → Owes (λ e. e.under) (climbed (f.agents * f.columns) units sets edges) n 0 to units
  up_two [] None edges n to units e known side wires h = h
  up_two [] (Some s) edges n to units e known side wires h = let step = chain_step f family.lawful t r s (known s refl) in absurd (cc)
  up_two (x ∷ sets) None edges n to units e known side wires h = let step = chain_none t in absurd (cc)
  up_two (x ∷ sets) (Some s) edges n to units e known side wires h =
      let here : IsSet f s = known s refl in
      let step : s ∷ chain_of t (parent_at t s) ≡ x ∷ sets = sym (chain_step f family.lawful t r s here) ∙ e in
      let first : s ≡ x = cc in
      let rest : chain_of t (parent_at t s) ≡ sets = cc in
      let b = f.agents * f.columns + s - 1 in
      let low = here.0 in
      let high = here.1 in
      let many = edges_many f family t r edges wires in
      let two = side s refl in
      subst (λ y. Owes (λ e. e.under) (climbed (f.agents * f.columns) units (y ∷ sets) edges) n 0 to units) first
      (up_two sets (parent_at t s) (raised units b edges) n to units rest (parent_known f family.lawful t r s here)
      (λ p q. side_up f family t r s p here q ∙ two) (raised_wires units b edges ∙ wires)
      (raised_head units b n to edges (s, node_of (parent_at t s)) (omega arith) (two_ends f family t r edges wires s here two) h))

  module _ (units : List ℕ) (shape : length units ≡ f.agents * f.columns) (many : ℕ) (edges : List Edge) (part : IsPart f t units many edges) where
    cells_small : (i : ℕ) (d : Edge) → i < f.agents * f.columns → (get_or edges i d).under ≤ get_or units i 0
    cells_small i d l = elim (cases_lt i many) [
      | inl below ↦ (let same : cond (ltb i many) (get_or units i 0) 0 ≡ get_or units i 0 = rw (lt-ltb i many below) refl in omega (arith, part.cells i d l, same))
      | inr above ↦ (let zero_there : cond (ltb i many) (get_or units i 0) 0 ≡ 0 = rw (le-ltb i many above) refl in omega (arith, part.cells i d l, zero_there))
    ]

    abbrev carried : List ℕ
    carried = map (λ e. e.under) (take (f.agents * f.columns) edges)

    cells_of_edges : length (take (f.agents * f.columns) edges) ≡ f.agents * f.columns
    cells_of_edges = length-take-le (f.agents * f.columns) edges (let m = edges_many f family t r edges part.wires in omega arith)

    carried_many : length carried ≡ f.agents * f.columns
    carried_many = length-map (take (f.agents * f.columns) edges) (λ (e : Edge). e.under) ∙ cells_of_edges

    carried_at : (i : ℕ) → i < f.agents * f.columns → get_or carried i 0 ≡ (edge_at edges i).under
    carried_at i l =
        get_or-map (λ (e : Edge). e.under) (take (f.agents * f.columns) edges) i (empty_edge (0, 0)) 0 (let m = cells_of_edges in omega arith)
        ∙ ap (λ (e : Edge). e.under) (get_or-take (f.agents * f.columns) edges i (empty_edge (0, 0)) l)

    carried_small : sum carried ≤ sum units
    carried_small = sum_le_at (λ (n : ℕ). n) (λ (n : ℕ). n) carried units 0 0 (carried_many ∙ sym shape) (λ i l.
        let inside : i < f.agents * f.columns = (let m = carried_many in omega arith) in
        omega (arith, carried_at i inside, cells_small i (empty_edge (0, 0)) inside))

    side_of : (s : ℕ) → IsSet f s → (side : ℕ) × (set_side f s ≡ side) × ((side ≡ 1) ⊎ (side ≡ 2))
    side_of s known = (set_side f s, refl, known_side f s family.lawful known)

    at_most : (b : Bool) (n : ℕ) → cond b n 0 ≤ n
    at_most true n = omega arith
    at_most false n = omega arith

    -- the sum over a set is at most that over all cells
    set_small : (s : ℕ) → IsSet f s → set_sum (unit_at f.columns carried) (set_cells f s) ≤ sum carried
    set_small s known =
        let (side, at, sides) = side_of s known in
        let g : Cell → ℕ = λ c. cond (is_member nat_eq (chain_of t (deepest_at t side c)) s) (unit_at f.columns carried c) 0 in
        let some = sum_le_all (IsCellWithin f.agents f.columns) g (unit_at f.columns carried) (all_cells f.agents f.columns)
        (λ c inside. at_most (is_member nat_eq (chain_of t (deepest_at t side c)) s) (unit_at f.columns carried c)) (all_within f.agents f.columns) in
        omega (arith, set_sum_by_chains f family t r side sides s (unit_at f.columns carried) known at, some, sum_of_units f.agents f.columns carried carried_many)

    -- no edge has more than all units
    pub part_small : All (λ e. e.under ≤ sum units) edges
    part_small k d l = elim (cases_lt k (f.agents * f.columns)) [
      | inl cell ↦ omega (arith, cells_small k d cell, unit_small units k (omega (arith, cell, shape)))
      | inr set ↦ (
          let m = edges_many f family t r edges part.wires in
          let s = k - f.agents * f.columns + 1 in
          let known : IsSet f s = (omega arith, omega arith) in
          let place : f.agents * f.columns + s - 1 ≡ k = omega arith in
          let carries = set_carries f family t r edges part.wires (λ e. e.under) part.balanced s known in
          let same : (get_or edges k d).under ≡ (edge_at edges (f.agents * f.columns + s - 1)).under =
          ap (λ (e : Edge). e.under) (get_or_default edges k d (empty_edge (0, 0)) l ∙ ap (edge_at edges) (sym place)) in
          omega (arith, carries, same, set_small s known, carried_small))
    ]

    module _ (inside : many < f.agents * f.columns) where
      abbrev here : ℕ
      here = get_or units many 0

      abbrev chain : ℕ → List ℕ
      chain side = chain_of t (deepest_at t side (place_cell f many))

      cell_inside : IsCellWithin f.agents f.columns (place_cell f many)
      cell_inside = place_within f.agents f.columns many inside

      known_one : IsSetOrNone f family.lawful t r (deepest_at t 1 (place_cell f many))
      known_one = deepest_known f family.lawful t r 1 (place_cell f many) (inl refl) cell_inside

      known_two : IsSetOrNone f family.lawful t r (deepest_at t 2 (place_cell f many))
      known_two = deepest_known f family.lawful t r 2 (place_cell f many) (inr refl) cell_inside

      -- the edges after the cell's own, after the sets of side 1, and after those of side 2
      abbrev pub after_cell : List Edge
      after_cell = raised here many edges

      abbrev pub after_one : List Edge
      after_one = climbed (f.agents * f.columns) here (chain 1) after_cell

      abbrev pub after_two : List Edge
      after_two = climbed (f.agents * f.columns) here (chain 2) after_one

      sets_one : (s : ℕ) → is_member nat_eq (chain 1) s ≡ true → IsSet f s
      sets_one s m = chain_sets f family t r (deepest_at t 1 (place_cell f many)) (some_of f family t r (deepest_at t 1 (place_cell f many)) known_one) s m

      sets_two : (s : ℕ) → is_member nat_eq (chain 2) s ≡ true → IsSet f s
      sets_two s m = chain_sets f family t r (deepest_at t 2 (place_cell f many)) (some_of f family t r (deepest_at t 2 (place_cell f many)) known_two) s m

      pub cell_bound : All (λ e. e.under ≤ sum units + here) after_cell
      cell_bound = raised_bound here many (sum units) edges part_small

      pub one_bound : All (λ e. e.under ≤ sum units + here + here) after_one
      one_bound = climbed_bound (f.agents * f.columns) here (sum units + here) (chain 1) after_cell
          (chain_distinct f family.lawful t r (deepest_at t 1 (place_cell f many)) known_one) (λ s m. (sets_one s m).0) cell_bound

      -- the cells' edges are those after the cell's own
      cells_stay : (i : ℕ) (d : Edge) → i < f.agents * f.columns → get_or after_two i d ≡ get_or after_cell i d
      cells_stay i d l =
          climbed_off (f.agents * f.columns) here (chain 2) after_one i d (λ s m e. (let low = (sets_two s m).0 in omega arith))
          ∙ climbed_off (f.agents * f.columns) here (chain 1) after_cell i d (λ s m e. (let low = (sets_one s m).0 in omega arith))

      -- the units of one cell more
      pub part_more : IsPart f t units (many + 1) after_two
      part_more = record {
        wires = climbed_wires (f.agents * f.columns) here (chain 2) after_one ∙ climbed_wires (f.agents * f.columns) here (chain 1) after_cell ∙ raised_wires here many edges ∙ part.wires;
        unused = climbed_unused (f.agents * f.columns) here (chain 2) after_one (climbed_unused (f.agents * f.columns) here (chain 1) after_cell (raised_unused here many edges part.unused));
        cells = λ i d l. (
            let stay = ap (λ (e : Edge). e.under) (cells_stay i d l) in
            elim (cases_eq i many) [
              | inl same ↦ (
                  let all = edges_many f family t r edges part.wires in
                  let before : (get_or edges many d).under ≡ 0 = part.cells many d inside ∙ rw (le-ltb many many (omega arith)) refl in
                  let raise = raised_here here many edges d (omega arith) in
                  let at : (get_or after_cell many d).under ≡ here = omega (arith, before, raise) in
                  let now : here ≡ cond (ltb many (many + 1)) here 0 = rw (lt-ltb many (many + 1) (omega arith)) refl in
                  stay ∙ subst (λ j. (get_or after_cell j d).under ≡ cond (ltb j (many + 1)) (get_or units j 0) 0) (sym same) (at ∙ now))
              | inr other ↦ stay ∙ ap (λ (e : Edge). e.under) (raised_other here many i edges d other) ∙ one_more i many (get_or units i 0) (get_or edges i d).under other (part.cells i d l)
            ]);
        balanced = λ v l. (
            let all = edges_many f family t r edges part.wires in
            let n = length f.sets + 1 in
            let c = place_cell f many in
            let first = raised_first here many n edges (cell_wire t c) (omega arith) (cell_ends f family t r edges part.wires many inside) part.balanced in
            let one = up_one (chain 1) (deepest_at t 1 c) after_cell n (node_of (deepest_at t 2 c)) here refl known_one
            (λ s e. (deepest_is f family.lawful t r 1 c (inl refl) cell_inside s e).sides) (raised_wires here many edges ∙ part.wires) first in
            let two = up_two (chain 2) (deepest_at t 2 c) after_one n 0 here refl known_two
            (λ s e. (deepest_is f family.lawful t r 2 c (inr refl) cell_inside s e).sides)
            (climbed_wires (f.agents * f.columns) here (chain 1) after_cell ∙ raised_wires here many edges ∙ part.wires) one in
            let paid = two.at v l in
            omega (arith, paid));
      }

    -- the same by the values that one pass has
    module _ (inside : many < f.agents * f.columns) (u : ℕ) (here : u ≡ get_or units many 0) where
      pub room_at_one : 4 * sum units < 2 ^ 128 → All (λ e. e.under + u < 2 ^ 128) (raised u many edges)
      room_at_one few =
          rw here (λ k d l. (
          let small = unit_small units many (omega (arith, inside, shape)) in
          omega (arith, cell_bound inside k d l, small, few)))

      pub room_at_two : (one : Option ℕ) (next : List Edge) → 4 * sum units < 2 ^ 128 → one ≡ deepest_at t 1 (place_cell f many)
          → next ≡ climbed (f.agents * f.columns) u (chain_of t one) (raised u many edges) → All (λ e. e.under + u < 2 ^ 128) next
      room_at_two one next few at_one up =
          rw (up, at_one, here) (λ k d l. (
          let small = unit_small units many (omega (arith, inside, shape)) in
          omega (arith, one_bound inside k d l, small, few)))

      pub part_next : (one two : Option ℕ) (next last : List Edge) → one ≡ deepest_at t 1 (place_cell f many) → two ≡ deepest_at t 2 (place_cell f many)
          → next ≡ climbed (f.agents * f.columns) u (chain_of t one) (raised u many edges)
          → last ≡ climbed (f.agents * f.columns) u (chain_of t two) next → IsPart f t units (many + 1) last
      part_next one two next last at_one at_two up up_again = rw (up_again, up, at_one, at_two, here) (part_more inside)

    -- with the units of all cells
    pub part_all : f.agents * f.columns ≤ many → IsLoaded (length f.sets + 1) (wires_of f t) units edges
    part_all last = record {
      wires = part.wires;
      empty = part.unused;
      cells =
          ap (λ k. map (λ (e : Edge). e.under) (take k edges)) shape
          ∙ same_lists carried units (carried_many ∙ sym shape) (λ i d l.
          let inside : i < f.agents * f.columns = (let m = carried_many in omega arith) in
          let below : cond (ltb i many) (get_or units i 0) 0 ≡ get_or units i 0 = rw (lt-ltb i many (omega arith)) refl in
          get_or_default carried i d 0 l ∙ carried_at i inside ∙ part.cells i (empty_edge (0, 0)) inside ∙ below ∙ get_or_default units i 0 d (omega (arith, shape)));
      balanced = part.balanced;
      few = part_small;
    }

-- the units that a matrix gives at the cell of a place
pub unit_here : (f : FamilyValue) (x : ScaledValue) (columns place u : ℕ) (c : Cell) → place < f.agents * f.columns → columns ≡ x.columns → x.columns ≡ f.columns
    → c ≡ cell_of (place / columns) (place % columns) → u ≡ units_of x c → u ≡ get_or x.units place 0
unit_here f x columns place u c inside is_x is_f at value = value ∙ rw (at, is_x, is_f) (unit_of_place f x.units place inside)

-- and the cell is that of the place
pub cell_here : (f : FamilyValue) (x : ScaledValue) (columns place : ℕ) (c : Cell) → columns ≡ x.columns → x.columns ≡ f.columns
    → c ≡ cell_of (place / columns) (place % columns) → c ≡ place_cell f place
cell_here f x columns place c is_x is_f at = at ∙ rw (is_x, is_f) refl
