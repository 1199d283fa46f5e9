-- The net of a family and its trees, with all of a matrix left.
use Rattle.std.proofs.Common.{Vec, ◌≡◌, ℕ, ◌+◌, ◌*◌, ◌≤◌, ◌⊎◌, ◌∙◌, List, [], ◌∷◌, length, map, take, cond, eqb, inr, ap, sym, refl, arith, All}
use Rattle.std.specs.Prelude.{sum, sum_by}
use Rattle.std.specs.List.{AllByRecursion}
use Rattle.std.specs.Vec.{with_items}
use Rattle.std.proofs.lemmas.List.{length-map, with_items_is}
use Rattle.std.proofs.lemmas.Simd.{map-map}
use Rattle.std.proofs.lemmas.List.Elements.{All-map, All-take, All-weaker, recursion_from_All}
use Rattle.std.proofs.lemmas.List.Sums.{sum-map}
use Rattle.std.proofs.lemmas.Nat.{mul-le}
use Rattle.definitions.specs.Sets.{FamilyValue, ScaledValue, IsFamily, IsQuotaSet, IsScaledMatrix, IsCellWithin}
use Rattle.definitions.specs.Rounding.{SideSet}
use Rattle.definitions.specs.Trees.{TreesValue, AreTreesOf}
use Rattle.definitions.proofs.Families.{apart_of_bihierarchy}
use Rattle.definitions.proofs.Sums.{sum_same_all, sum_zero}
use Rattle.bounded_flow.specs.declared.edge.Edge.{Edge}
use Rattle.bounded_flow.specs.declared.search.Adjacency.{Adjacency}
use Rattle.bounded_flow.specs.declared.search.Search.{Search}
use Rattle.bounded_flow.specs.Edges.{rest_of, wire, IsSound}
use Rattle.bounded_flow.specs.Flows.{IsFlow}
use Rattle.bounded_flow.specs.Loads.{IsUnused, IsLoaded, empty_edge}
use Rattle.bounded_flow.specs.Nets.{side_set, side_sets}
use Rattle.bounded_flow.specs.Searches.{IsAdjacency, HasRoom}
use Rattle.bounded_flow.specs.Webs.{AreNetSets, IsWeb}
use Rattle.bounded_flow.specs.Wires.{wires_of}
use Rattle.bounded_flow.proofs.Adding.{adds_of_trees, inside_edges, edges_many}
use Rattle.bounded_flow.proofs.Making.{nothing_either_way}
use Rattle.bounded_flow.proofs.Webs.{cell_values}

map_same_all : {X Y : Type 0} (P : X → Type 0) (g h : X → Y) (xs : List X) → ((x : X) → P x → g x ≡ h x) → AllByRecursion P xs → map g xs ≡ map h xs
map_same_all P g h [] same all = refl
map_same_all P g h (x ∷ xs) same all = ap (λ y. y ∷ map g xs) (same x all.0) ∙ ap (λ ys. h x ∷ ys) (map_same_all P g h xs same all.1)

-- the sets of a bihierarchy are sets of a net
sets_of_family : (f : FamilyValue) (t : TreesValue) → IsFamily f → AreTreesOf f t → AreNetSets f.agents f.columns (side_sets f)
sets_of_family f t family r = record {
  agents_limit = family.agents_limit;
  columns_limit = family.columns_limit;
  sets_limit = (let m = length-map f.sets side_set in let limit = family.sets_limit in omega arith);
  sides = All-map (λ s. (s.side ≡ 1) ⊎ (s.side ≡ 2)) side_set f.sets (All-weaker IsQuotaSet (λ s. (s.side ≡ 1) ⊎ (s.side ≡ 2)) (λ s h. h.side) f.sets family.lawful);
  apart = rw (map-map (λ (s : SideSet). s.cells) side_set f.sets, map-map (λ (s : SideSet). s.side) side_set f.sets) (apart_of_bihierarchy f family.lawful r.apart);
  inside = All-map (λ s. All (IsCellWithin f.agents f.columns) s.cells) side_set f.sets family.inside;
}

-- the loaded edges are those that are written
pub written : {Z : Type 0} (f : FamilyValue) (t : TreesValue) (v : Vec Edge Z) (new : List Edge) → v.items ≡ map empty_edge (wires_of f t) → map wire new ≡ wires_of f t → (with_items v new).items ≡ new
written f t v new made loaded =
    with_items_is v new (sym (length-map new wire) ∙ ap length loaded ∙ sym (length-map (wires_of f t) empty_edge) ∙ ap length (sym made) ∙ sym v.ok.0)

-- few enough edges for their numbers
pub edges_few : (f : FamilyValue) (t : TreesValue) → IsFamily f → AreTreesOf f t → (edges : List Edge) → map wire edges ≡ wires_of f t → length edges ≤ 203000
edges_few f t family r edges wires =
    let cells = mul-le f.agents f.columns 1000 201 family.agents_limit family.columns_limit in
    omega (arith, edges_many f family t r edges wires, cells, family.sets_limit)

-- nothing whole yet: the remainder is what the edge is under by
rest_unused : (left : ℕ) (e : Edge) → IsUnused e → rest_of left e ≡ e.under
rest_unused left e h = rw (h.0, h.1) (omega arith)

sound_unused : (left : ℕ) (e : Edge) → IsUnused e → e.under ≤ 1000 * left → IsSound left e
sound_unused left e h few =
    let none : left * e.whole ≡ 0 = rw h.0 (omega arith) in
    let whole = h.0 in
    let over = h.1 in
    record {
      one_side = inr over;
      few = omega arith;
      over_left = omega arith;
      over_whole = omega arith;
      rest_few = omega (arith, none, over, few);
    }

module _ (f : FamilyValue) (t : TreesValue) (x : ScaledValue) (family : IsFamily f) (r : AreTreesOf f t) (scaled : IsScaledMatrix x) (agents : x.agents ≡ f.agents) (columns : x.columns ≡ f.columns) (edges : List Edge)
    (loaded : IsLoaded (length f.sets + 1) (wires_of f t) x.units edges) where
  shape : length x.units ≡ f.agents * f.columns
  shape = rw (← agents, ← columns) scaled.shape

  each_unused : AllByRecursion IsUnused edges
  each_unused = recursion_from_All IsUnused edges loaded.empty

  cells_unused : AllByRecursion IsUnused (take (f.agents * f.columns) edges)
  cells_unused = recursion_from_All IsUnused (take (f.agents * f.columns) edges) (All-take IsUnused (f.agents * f.columns) edges loaded.empty)

  -- the remainders of the cells are the units
  pub rest_is : cell_values (rest_of x.denominator) (f.agents * f.columns) edges ≡ x.units
  rest_is =
      map_same_all IsUnused (rest_of x.denominator) (λ e. e.under) (take (f.agents * f.columns) edges) (rest_unused x.denominator) cells_unused
      ∙ ap (λ k. map (λ (e : Edge). e.under) (take k edges)) (sym shape) ∙ loaded.cells

  whole_none : (test : Edge → ℕ) (v : ℕ) → sum_by (λ e. cond (eqb (test e) v) e.whole 0) edges ≡ 0
  whole_none test v =
      sum_same_all IsUnused (λ e. cond (eqb (test e) v) e.whole 0) (λ e. 0) edges (λ e h. ap (λ y. cond (eqb (test e) v) y 0) h.0 ∙ nothing_either_way (eqb (test e) v)) each_unused ∙ sum_zero edges

  rest_same : (test : Edge → ℕ) (v : ℕ) → sum_by (λ e. cond (eqb (test e) v) (rest_of x.denominator e) 0) edges ≡ sum_by (λ e. cond (eqb (test e) v) e.under 0) edges
  rest_same test v =
      sum_same_all IsUnused (λ e. cond (eqb (test e) v) (rest_of x.denominator e) 0) (λ e. cond (eqb (test e) v) e.under 0) edges
      (λ e h. ap (λ y. cond (eqb (test e) v) y 0) (rest_unused x.denominator e h)) each_unused

  -- the loaded edges are a flow
  pub flow_of_loaded : IsFlow x.denominator (length f.sets + 1) edges
  flow_of_loaded = record {
    inside = inside_edges f family t r edges loaded.wires;
    sound = λ k d l. sound_unused x.denominator _ (loaded.empty k d l) (let few = loaded.few k d l in let total = scaled.total in omega arith);
    whole = λ v l. whole_none (λ e. e.tail) v ∙ sym (whole_none (λ e. e.head) v);
    rests = λ v l. rest_same (λ e. e.tail) v ∙ loaded.balanced v l ∙ sym (rest_same (λ e. e.head) v);
  }

  -- a net's fields
  pub web_of_trees : (adjacency : Adjacency) (search : Search) → IsAdjacency (length f.sets + 1) adjacency edges → HasRoom (length f.sets + 1) search
      → IsWeb f.agents f.columns x.denominator (side_sets f) edges adjacency search
  web_of_trees adjacency search adjacent room =
      let many : length (side_sets f) ≡ length f.sets = length-map f.sets side_set in
      record {
        lawful = sets_of_family f t family r;
        left_limit = scaled.limit;
        many = (let all = edges_many f family t r edges loaded.wires in omega arith);
        flow = rw many flow_of_loaded;
        adds = rw (map-map (λ (s : SideSet). s.cells) side_set f.sets, loaded.wires) (adds_of_trees f t family r);
        adjacent = rw many adjacent;
        room = rw many room;
        total = (
            let sums = sym (sum-map (rest_of x.denominator) (take (f.agents * f.columns) edges)) ∙ ap sum rest_is in
            omega (arith, sums, scaled.total, scaled.limit));
      }
