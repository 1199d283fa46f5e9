-- What is in balance adds up: the edge of each set carries the sum over the set's cells.
use Rattle.std.proofs.Common.{◌≡◌, ℕ, zero, suc, ◌+◌, ◌-◌, ◌*◌, ◌<◌, ◌⊎◌, ◌∙◌, List, [], ◌||◌, Option, Some, None, length, map, take, drop, get_or, cond, eqb, Bool, false, inl, inr, ap, sym, subst, refl, arith, All, length-drop}
use Rattle.std.specs.Prelude.{sum_by, nat_eq, slice_get, unwrap_or}
use Rattle.std.specs.List.{range_with_len}
use Rattle.std.specs.Set.{is_member}
use Rattle.std.proofs.lemmas.Bool.{both_ways, false_from_ne_true, eq-eqb, ne_eqb, cases_eq, cond_both}
use Rattle.std.proofs.lemmas.List.{length-map, length-take-le, get_or-take, get_or-drop, get_or-map, get_or_default, get_or_append_left}
use Rattle.std.proofs.lemmas.List.Elements.{All-append, All-map, All-weaker, All-from_recursion}
use Rattle.std.proofs.lemmas.List.FromFn.{length-range_with_len, get_or-range_with_len}
use Rattle.std.proofs.lemmas.List.Sums.{sum_by-take-drop}
use Rattle.std.proofs.lemmas.Option.{slice_get_within}
use Rattle.definitions.specs.declared.Cell.{Cell}
use Rattle.definitions.specs.Sets.{SetValue, FamilyValue, IsCellWithin, IsFamily, IsSet, cells_of, set_cells, set_side, set_sum, unit_at, cell_of, cell_index, all_cells}
use Rattle.definitions.specs.Trees.{TreesValue, AreTreesOf, parent_at, deepest_at, chain_of}
use Rattle.definitions.proofs.Cells.{cell_count, all_within}
use Rattle.definitions.proofs.Families.{known_side}
use Rattle.definitions.proofs.Lists.{each_below}
use Rattle.definitions.proofs.Members.{number_test}
use Rattle.definitions.proofs.Ranges.{member_of_range, distinct_range}
use Rattle.definitions.proofs.Sums.{sum_of_sums, sum_zero, single, unit_at_within}
use Rattle.rounding_laws.proofs.Falls.{sum_le_at}
use Rattle.side_laws.proofs.ChainSums.{set_sum_by_chains}
use Rattle.side_laws.proofs.Trees.{IsSetOrNone, parent_known, chain_step, chain_rises, chain_holds, deepest_known, parent_chain_without}
use Rattle.bounded_flow.specs.declared.edge.Edge.{Edge}
use Rattle.bounded_flow.specs.Edges.{wire}
use Rattle.bounded_flow.specs.Flows.{Balanced, Adds, IsInside}
use Rattle.bounded_flow.specs.Loads.{empty_edge}
use Rattle.bounded_flow.specs.Wires.{node_of, cell_wire, set_wire, cell_wires, set_wires, wires_of}
use Rattle.bounded_flow.proofs.Climbing.{edge_at, chain_next}
use Rattle.bounded_flow.proofs.Ends.{reached_ends}
use Rattle.bounded_flow.proofs.Making.{place_cell, place_within, place_back, cell_of_place, cell_wire_at, set_wire_at, cell_wires_many, wires_many}

-- equal terms at each place, equal sums
sum_same_at : {X Y : Type 0} (g : X → ℕ) (h : Y → ℕ) (xs : List X) (ys : List Y) (d : X) (e : Y) → length xs ≡ length ys
    → ((i : ℕ) → i < length xs → g (get_or xs i d) ≡ h (get_or ys i e)) → sum_by g xs ≡ sum_by h ys
sum_same_at g h xs ys d e same at =
    omega (arith, sum_le_at g h xs ys d e same (λ i l. (let a = at i l in omega arith)), sum_le_at h g ys xs e d (sym same) (λ i l. (let a = at i (omega arith) in omega arith)))

-- a node as a set, or none at the root
abbrev set_at : ℕ → Option ℕ
set_at zero = None
set_at (suc k) = Some (suc k)

module _ (f : FamilyValue) (family : IsFamily f) (t : TreesValue) (r : AreTreesOf f t) where
  node_back : (o : Option ℕ) → IsSetOrNone f family.lawful t r o → set_at (node_of o) ≡ o
  node_back None known = refl
  node_back (Some zero) known = absurd (let low = (known 0 refl).0 in omega arith)
  node_back (Some (suc k)) known = refl

  set_back : (u : ℕ) → IsSet f u → set_at u ≡ Some u
  set_back zero known = absurd (let low = known.0 in omega arith)
  set_back (suc k) known = refl

  module _ (s : ℕ) (known : IsSet f s) (side other : ℕ) (sides : ((side ≡ 1) × (other ≡ 2)) ⊎ ((side ≡ 2) × (other ≡ 1))) (at_side : set_side f s ≡ side) where
    -- the node's chain passes the set
    abbrev passes : ℕ → Bool
    passes v = is_member nat_eq (chain_of t (set_at v)) s

    apart : side ≡ other → ⊥
    apart e = elim sides [
      | inl p ↦ absurd (omega (arith, e, p.0, p.1))
      | inr p ↦ absurd (omega (arith, e, p.0, p.1))
    ]

    side_known : (side ≡ 1) ⊎ (side ≡ 2)
    side_known = elim sides [
      | inl p ↦ inl p.0
      | inr p ↦ inr p.0
    ]

    other_known : (other ≡ 1) ⊎ (other ≡ 2)
    other_known = elim sides [
      | inl p ↦ inr p.1
      | inr p ↦ inl p.1
    ]

    -- each set is of the one side or the other
    side_cases : (u : ℕ) → IsSet f u → (set_side f u ≡ side) ⊎ (set_side f u ≡ other)
    side_cases u here = elim sides [
      | inl p ↦ elim (known_side f u family.lawful here) [
        | inl one ↦ inl (one ∙ sym p.0)
        | inr two ↦ inr (two ∙ sym p.1)
      ]
      | inr p ↦ elim (known_side f u family.lawful here) [
        | inl one ↦ inr (one ∙ sym p.1)
        | inr two ↦ inl (two ∙ sym p.0)
      ]
    ]

    -- a cell's chain passes the set where the deepest set's node does
    at_deepest : (i : ℕ) → i < f.agents * f.columns → passes (node_of (deepest_at t side (place_cell f i))) ≡ is_member nat_eq (chain_of t (deepest_at t side (place_cell f i))) s
    at_deepest i l = ap (λ o. is_member nat_eq (chain_of t o) s)
        (node_back (deepest_at t side (place_cell f i)) (deepest_known f family.lawful t r side (place_cell f i) side_known (place_within f.agents f.columns i l)))

    -- no chain of the other side passes it
    off_deepest : (i : ℕ) → i < f.agents * f.columns → passes (node_of (deepest_at t other (place_cell f i))) ≡ false
    off_deepest i l =
        let inside = place_within f.agents f.columns i l in
        let back = ap (λ o. is_member nat_eq (chain_of t o) s) (node_back (deepest_at t other (place_cell f i)) (deepest_known f family.lawful t r other (place_cell f i) other_known inside)) in
        back ∙ false_from_ne_true (is_member nat_eq (chain_of t (deepest_at t other (place_cell f i))) s) (λ m.
        apart (sym at_side ∙ ((chain_holds f family.lawful t r other (place_cell f i) other_known inside s).0 m).1))

    at_parent : (u : ℕ) → IsSet f u → passes (node_of (parent_at t u)) ≡ is_member nat_eq (chain_of t (parent_at t u)) s
    at_parent u here = ap (λ o. is_member nat_eq (chain_of t o) s) (node_back (parent_at t u) (parent_known f family.lawful t r u here))

    at_set : (u : ℕ) → IsSet f u → passes u ≡ (nat_eq s u || is_member nat_eq (chain_of t (parent_at t u)) s)
    at_set u here = ap (λ o. is_member nat_eq (chain_of t o) s) (set_back u here) ∙ ap (λ xs. is_member nat_eq xs s) (chain_step f family.lawful t r u here)

    -- the chain of a set of the other side doesn't pass it
    off_set : (u : ℕ) → IsSet f u → set_side f u ≡ other → is_member nat_eq (chain_of t (Some u)) s ≡ false
    off_set u here side_u = false_from_ne_true (is_member nat_eq (chain_of t (Some u)) s) (λ m.
        apart (sym at_side ∙ (chain_rises f family.lawful t r u here s m).1 ∙ side_u))

    -- one set's edge: up is the end at the parent, down the end at the set
    set_term : (u x : ℕ) → IsSet f u → set_side f u ≡ side → cond (passes u) x 0 ≡ cond (passes (node_of (parent_at t u))) x 0 + cond (nat_eq s u) x 0
    set_term u x here side_u =
        rw (at_set u here, at_parent u here) (elim (cases_eq s u) [
          | inl same ↦ (
              let without : is_member nat_eq (chain_of t (parent_at t u)) s ≡ false =
              subst (λ v. is_member nat_eq (chain_of t (parent_at t u)) v ≡ false) (sym same) (parent_chain_without f family.lawful t r u here) in
              rw (eq-eqb s u same, without) (omega arith))
          | inr differs ↦ rw (ne_eqb s u differs) (omega arith)
        ])

    other_term : (u x : ℕ) → IsSet f u → set_side f u ≡ other → cond (passes (node_of (parent_at t u))) x 0 ≡ cond (passes u) x 0 + cond (nat_eq s u) x 0
    other_term u x here side_u =
        let none = off_set u here side_u in
        let differs : nat_eq s u ≡ false = ne_eqb s u (λ e. apart (sym at_side ∙ ap (set_side f) e ∙ side_u)) in
        let at : passes u ≡ false = ap (λ o. is_member nat_eq (chain_of t o) s) (set_back u here) ∙ none in
        let up : passes (node_of (parent_at t u)) ≡ false = at_parent u here ∙ false_from_ne_true (is_member nat_eq (chain_of t (parent_at t u)) s) (λ m.
        both_ways (is_member nat_eq (chain_of t (Some u)) s) none (chain_next f family t r u here s m)) in
        rw (at, up, differs) refl

    module _ (edges : List Edge) (val : Edge → ℕ) (many : length edges ≡ f.agents * f.columns + length f.sets) where
      -- the matrix that the cells' edges carry
      abbrev carried : List ℕ
      carried = map val (take (f.agents * f.columns) edges)

      -- what an edge carries at a node on whose chain the set is
      abbrev share : (Edge → ℕ) → Edge → ℕ
      share end e = cond (passes (end e)) (val e) 0

      cells_many : length (take (f.agents * f.columns) edges) ≡ length (all_cells f.agents f.columns)
      cells_many = length-take-le (f.agents * f.columns) edges (omega arith) ∙ sym (cell_count f.agents f.columns)

      sets_many : length (drop (f.agents * f.columns) edges) ≡ length (range_with_len 1 (length f.sets))
      sets_many = omega (arith, length-drop (f.agents * f.columns) edges, length-range_with_len 1 (length f.sets))

      carried_at : (i : ℕ) → i < f.agents * f.columns → val (edge_at edges i) ≡ unit_at f.columns carried (place_cell f i)
      carried_at i l =
          let inside = place_within f.agents f.columns i l in
          let place : i ≡ cell_index f.columns (place_cell f i) = place_back f.agents f.columns i l in
          let m = cells_many in
          let n = cell_count f.agents f.columns in
          let there : i < length (take (f.agents * f.columns) edges) = omega arith in
          ap val (sym (get_or-take (f.agents * f.columns) edges i (empty_edge (0, 0)) l))
          ∙ sym (get_or-map val (take (f.agents * f.columns) edges) i (empty_edge (0, 0)) 0 there)
          ∙ ap (λ k. get_or carried k 0) place ∙ sym (unit_at_within f.columns carried (place_cell f i) inside.1)

      -- over the cells one end carries the sum over the set's cells
      cells_near : (end : Edge → ℕ) → ((i : ℕ) → i < f.agents * f.columns → end (edge_at edges i) ≡ node_of (deepest_at t side (place_cell f i)))
          → sum_by (share end) (take (f.agents * f.columns) edges) ≡ set_sum (unit_at f.columns carried) (set_cells f s)
      cells_near end at =
          let g : Cell → ℕ = λ c. cond (is_member nat_eq (chain_of t (deepest_at t side c)) s) (unit_at f.columns carried c) 0 in
          sum_same_at (share end) g (take (f.agents * f.columns) edges) (all_cells f.agents f.columns) (empty_edge (0, 0)) (cell_of 0 0) cells_many (λ i l.
          let l : i < f.agents * f.columns = (let m = cells_many in let n = cell_count f.agents f.columns in omega arith) in
          ap (share end) (get_or-take (f.agents * f.columns) edges i (empty_edge (0, 0)) l)
          ∙ ap (λ v. cond (passes v) (val (edge_at edges i)) 0) (at i l)
          ∙ ap (λ b. cond b (val (edge_at edges i)) 0) (at_deepest i l)
          ∙ ap (λ n. cond (is_member nat_eq (chain_of t (deepest_at t side (place_cell f i))) s) n 0) (carried_at i l)
          ∙ ap g (sym (cell_of_place f.agents f.columns i (cell_of 0 0) l)))
          ∙ sym (set_sum_by_chains f family t r side side_known s (unit_at f.columns carried) known at_side)

      -- and the other end nothing
      cells_far : (end : Edge → ℕ) → ((i : ℕ) → i < f.agents * f.columns → end (edge_at edges i) ≡ node_of (deepest_at t other (place_cell f i)))
          → sum_by (share end) (take (f.agents * f.columns) edges) ≡ 0
      cells_far end at =
          sum_same_at (share end) (λ (c : Cell). 0) (take (f.agents * f.columns) edges) (all_cells f.agents f.columns) (empty_edge (0, 0)) (cell_of 0 0) cells_many (λ i l.
          let l : i < f.agents * f.columns = (let m = cells_many in let n = cell_count f.agents f.columns in omega arith) in
          ap (share end) (get_or-take (f.agents * f.columns) edges i (empty_edge (0, 0)) l)
          ∙ ap (λ v. cond (passes v) (val (edge_at edges i)) 0) (at i l)
          ∙ ap (λ b. cond b (val (edge_at edges i)) 0) (off_deepest i l))
          ∙ sum_zero (all_cells f.agents f.columns)

      -- the edge of a set
      abbrev edge_of : ℕ → Edge
      edge_of u = edge_at edges (f.agents * f.columns + u - 1)

      -- an end of each set's edge, by the set
      sets_by_number : (end : Edge → ℕ) → sum_by (share end) (drop (f.agents * f.columns) edges) ≡ sum_by (λ u. share end (edge_of u)) (range_with_len 1 (length f.sets))
      sets_by_number end =
          sum_same_at (share end) (λ u. share end (edge_of u)) (drop (f.agents * f.columns) edges) (range_with_len 1 (length f.sets)) (empty_edge (0, 0)) 0 sets_many (λ i l.
          let l : i < length f.sets = (let m = sets_many in let n = length-range_with_len 1 (length f.sets) in omega arith) in
          let place : f.agents * f.columns + i ≡ f.agents * f.columns + (1 + i) - 1 = omega arith in
          ap (share end) (get_or-drop (f.agents * f.columns) edges i (empty_edge (0, 0)) ∙ ap (edge_at edges) place)
          ∙ ap (λ u. share end (edge_of u)) (sym (get_or-range_with_len 1 (length f.sets) i 0 l)))

      -- over the sets one end carries more than the other what the set's own edge carries
      sets_differ : (near far : Edge → ℕ) → ((u : ℕ) → IsSet f u → share far (edge_of u) ≡ share near (edge_of u) + cond (nat_eq s u) (val (edge_of u)) 0)
          → sum_by (share far) (drop (f.agents * f.columns) edges) ≡ sum_by (share near) (drop (f.agents * f.columns) edges) + val (edge_of s)
      sets_differ near far each =
          let numbers = range_with_len 1 (length f.sets) in
          let split = sum_same_at (λ u. share far (edge_of u)) (λ u. share near (edge_of u) + cond (nat_eq s u) (val (edge_of u)) 0) numbers numbers 0 0 refl (λ i l.
          let n = length-range_with_len 1 (length f.sets) in
          let at = get_or-range_with_len 1 (length f.sets) i 0 (omega arith) in
          each (get_or numbers i 0) (omega arith, omega arith)) in
          let sums = sum_of_sums (λ u. share near (edge_of u)) (λ u. cond (nat_eq s u) (val (edge_of u)) 0) numbers in
          let low = known.0 in
          let high = known.1 in
          let one = single nat_eq number_test (λ u. val (edge_of u)) s numbers (distinct_range 1 (length f.sets))
          ∙ ap (λ b. cond b (val (edge_of s)) 0) (member_of_range 1 (length f.sets) s (omega arith) (omega arith)) in
          omega (arith, sets_by_number far, sets_by_number near, split, sums, one)

      -- where both ends weigh the same, the set's edge carries the sum over the set's cells
      pub carries : (near far : Edge → ℕ)
          → ((i : ℕ) → i < f.agents * f.columns → near (edge_at edges i) ≡ node_of (deepest_at t side (place_cell f i)))
          → ((i : ℕ) → i < f.agents * f.columns → far (edge_at edges i) ≡ node_of (deepest_at t other (place_cell f i)))
          → ((u : ℕ) → IsSet f u → set_side f u ≡ side → (near (edge_of u) ≡ node_of (parent_at t u)) × (far (edge_of u) ≡ u))
          → ((u : ℕ) → IsSet f u → set_side f u ≡ other → (near (edge_of u) ≡ u) × (far (edge_of u) ≡ node_of (parent_at t u)))
          → sum_by (share near) edges ≡ sum_by (share far) edges
          → val (edge_of s) ≡ set_sum (unit_at f.columns carried) (set_cells f s)
      carries near far at_near at_far at_own at_other same =
          let each : (u : ℕ) → IsSet f u → share far (edge_of u) ≡ share near (edge_of u) + cond (nat_eq s u) (val (edge_of u)) 0 = λ u here.
          elim (side_cases u here) [
            | inl own ↦ (
                let ends = at_own u here own in
                ap (λ v. cond (passes v) (val (edge_of u)) 0) ends.1 ∙ set_term u (val (edge_of u)) here own
                ∙ ap (λ v. cond (passes v) (val (edge_of u)) 0 + cond (nat_eq s u) (val (edge_of u)) 0) (sym ends.0))
            | inr turned ↦ (
                let ends = at_other u here turned in
                ap (λ v. cond (passes v) (val (edge_of u)) 0) ends.1 ∙ other_term u (val (edge_of u)) here turned
                ∙ ap (λ v. cond (passes v) (val (edge_of u)) 0 + cond (nat_eq s u) (val (edge_of u)) 0) (sym ends.0))
          ] in
          let a = sum_by-take-drop (share near) edges (f.agents * f.columns) in
          let b = sum_by-take-drop (share far) edges (f.agents * f.columns) in
          omega (arith, same, a, b, cells_near near at_near, cells_far far at_far, sets_differ near far each)

-- the number of a node among those of the sets and the root
abbrev pub IsNodeOf : FamilyValue → ℕ × ℕ → Type 0
IsNodeOf f w = (w.0 < length f.sets + 1) × (w.1 < length f.sets + 1)

module _ (f : FamilyValue) (family : IsFamily f) (t : TreesValue) (r : AreTreesOf f t) where
  node_small : (o : Option ℕ) → IsSetOrNone f family.lawful t r o → node_of o < length f.sets + 1
  node_small None known = omega arith
  node_small (Some s) known = let high = (known s refl).1 in omega arith

  -- both ends of each edge are nodes
  pub inside_of_trees : All (IsNodeOf f) (wires_of f t)
  inside_of_trees =
      All-append (IsNodeOf f) (cell_wires f t) (set_wires f t (length f.sets))
      (All-map (IsNodeOf f) (cell_wire t) (all_cells f.agents f.columns)
      (All-weaker (IsCellWithin f.agents f.columns) (λ c. IsNodeOf f (cell_wire t c)) (λ c inside.
      (node_small (deepest_at t 1 c) (deepest_known f family.lawful t r 1 c (inl refl) inside), node_small (deepest_at t 2 c) (deepest_known f family.lawful t r 2 c (inr refl) inside)))
      (all_cells f.agents f.columns) (All-from_recursion (IsCellWithin f.agents f.columns) (all_cells f.agents f.columns) (all_within f.agents f.columns))))
      (All-map (IsNodeOf f) (set_wire f t) (range_with_len 1 (length f.sets))
      (All-from_recursion (λ s. IsNodeOf f (set_wire f t s)) (range_with_len 1 (length f.sets)) (each_below (λ s. IsNodeOf f (set_wire f t s)) 1 (length f.sets) (λ s low high.
      let known : IsSet f s = (omega arith, omega arith) in
      let up = node_small (parent_at t s) (parent_known f family.lawful t r s known) in
      let own : s < length f.sets + 1 = omega arith in
      cond_both (eqb (set_side f s) 1) (node_of (parent_at t s), s) (s, node_of (parent_at t s)) (IsNodeOf f) (λ e. (up, own)) (λ e. (own, up))))))

  module _ (edges : List Edge) (wires : map wire edges ≡ wires_of f t) where
    pub edges_many : length edges ≡ f.agents * f.columns + length f.sets
    edges_many = sym (length-map edges wire) ∙ ap length wires ∙ wires_many f t

    -- the ends of an edge
    pub wire_at : (i : ℕ) → i < length edges → (w : ℕ × ℕ) → wire (edge_at edges i) ≡ get_or (wires_of f t) i w
    wire_at i l w = sym (get_or-map wire edges i (empty_edge (0, 0)) w l) ∙ ap (λ ws. get_or ws i w) wires

    -- the edge of the cell at a place
    pub cell_ends : (i : ℕ) → i < f.agents * f.columns → wire (edge_at edges i) ≡ cell_wire t (place_cell f i)
    cell_ends i l =
        let m = edges_many in
        let n = cell_wires_many f t in
        wire_at i (omega arith) (0, 0) ∙ get_or_append_left (cell_wires f t) (set_wires f t (length f.sets)) (0, 0) i (omega arith) ∙ cell_wire_at f t i (0, 0) l

    -- the edge of a set
    pub set_ends : (s : ℕ) → IsSet f s → wire (edge_at edges (f.agents * f.columns + s - 1)) ≡ set_wire f t s
    set_ends s known =
        let m = edges_many in
        let low = known.0 in
        let high = known.1 in
        wire_at (f.agents * f.columns + s - 1) (omega arith) (0, 0) ∙ set_wire_at f t s (0, 0) known

    pub one_ends : (s : ℕ) → IsSet f s → set_side f s ≡ 1 → wire (edge_at edges (f.agents * f.columns + s - 1)) ≡ (node_of (parent_at t s), s)
    one_ends s known side = set_ends s known ∙ rw side refl

    pub two_ends : (s : ℕ) → IsSet f s → set_side f s ≡ 2 → wire (edge_at edges (f.agents * f.columns + s - 1)) ≡ (s, node_of (parent_at t s))
    two_ends s known side = set_ends s known ∙ rw side refl

    pub inside_edges : All (IsInside (length f.sets + 1)) edges
    inside_edges i d l =
        let at : get_or (wires_of f t) i (0, 0) ≡ wire (get_or edges i d) = sym (wire_at i l (0, 0)) ∙ ap wire (get_or_default edges i (empty_edge (0, 0)) d l) in
        subst (IsNodeOf f) at (inside_of_trees i (0, 0) (let m = edges_many in let n = wires_many f t in omega arith))

    -- what is in balance adds up over a set
    pub set_carries : (val : Edge → ℕ) → Balanced val edges (length f.sets + 1) → (s : ℕ) → IsSet f s
        → val (edge_at edges (f.agents * f.columns + s - 1)) ≡ set_sum (unit_at f.columns (map val (take (f.agents * f.columns) edges))) (set_cells f s)
    set_carries val balanced s known = elim (known_side f s family.lawful known) [
      | inl one ↦ carries f family t r s known 1 2 (inl (refl, refl)) one edges val edges_many (λ e. e.tail) (λ e. e.head)
          (λ i l. ap (λ w. w.0) (cell_ends i l)) (λ i l. ap (λ w. w.1) (cell_ends i l))
          (λ u here side. (ap (λ w. w.0) (one_ends u here side), ap (λ w. w.1) (one_ends u here side)))
          (λ u here side. (ap (λ w. w.0) (two_ends u here side), ap (λ w. w.1) (two_ends u here side)))
          (reached_ends (λ v. is_member nat_eq (chain_of t (set_at v)) s) (length f.sets + 1) val edges inside_edges balanced)
      | inr two ↦ carries f family t r s known 2 1 (inr (refl, refl)) two edges val edges_many (λ e. e.head) (λ e. e.tail)
          (λ i l. ap (λ w. w.1) (cell_ends i l)) (λ i l. ap (λ w. w.0) (cell_ends i l))
          (λ u here side. (ap (λ w. w.1) (two_ends u here side), ap (λ w. w.0) (two_ends u here side)))
          (λ u here side. (ap (λ w. w.1) (one_ends u here side), ap (λ w. w.0) (one_ends u here side)))
          (sym (reached_ends (λ v. is_member nat_eq (chain_of t (set_at v)) s) (length f.sets + 1) val edges inside_edges balanced))
    ]

-- in the graph of two trees what is in balance adds up
pub adds_of_trees : (f : FamilyValue) (t : TreesValue) → IsFamily f → AreTreesOf f t → Adds f.columns (f.agents * f.columns) (cells_of f) (wires_of f t)
adds_of_trees f t family r edges val wires balanced k s e found =
    let many : length (cells_of f) ≡ length f.sets = length-map f.sets (λ (q : SetValue). q.cells) in
    let within = slice_get_within (cells_of f) k s found in
    let known : IsSet f (k + 1) = (omega arith, omega arith) in
    let place : f.agents * f.columns + k ≡ f.agents * f.columns + (k + 1) - 1 = omega arith in
    let one : k + 1 - 1 ≡ k = omega arith in
    let held : set_cells f (k + 1) ≡ s = ap (λ i. unwrap_or (slice_get (cells_of f) i) []) one ∙ ap (λ o. unwrap_or o []) found in
    let all = edges_many f family t r edges wires in
    let nodes : Balanced val edges (length f.sets + 1) = λ v l. balanced v (omega arith) in
    ap val (get_or_default edges (f.agents * f.columns + k) e (empty_edge (0, 0)) (omega arith) ∙ ap (edge_at edges) place)
    ∙ set_carries f family t r edges wires val nodes (k + 1) known
    ∙ ap (set_sum (unit_at f.columns (map val (take (f.agents * f.columns) edges)))) held
