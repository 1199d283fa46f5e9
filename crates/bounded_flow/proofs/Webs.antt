-- What a net's fields show of each cell and set.
use Rattle.std.proofs.Common.{◌≡◌, ℕ, ◌+◌, ◌-◌, ◌*◌, ◌<◌, ◌≤◌, ◌^◌, List, [], length, map, take, get_or, refl, ap, sym, ◌∙◌, subst, inl, inr, arith, All}
use Rattle.std.proofs.lemmas.Bool.{cases_lt}
use Rattle.std.proofs.lemmas.List.{get_or-map, get_or-take, length-map, length-take-le}
use Rattle.std.proofs.lemmas.List.Elements.{All-map, All-take, All-weaker, All-from_get_or}
use Rattle.std.proofs.lemmas.List.Sums.{sum-map}
use Rattle.std.proofs.lemmas.Option.{slice_get-get_or}
use Rattle.definitions.specs.declared.Cell.{Cell}
use Rattle.definitions.specs.Sets.{set_sum, unit_at}
use Rattle.definitions.specs.Rounding.{SideSet, Rounds, IsRounded, Allows, gap}
use Rattle.rounding_laws.specs.Remainders.{AllAllow, IsTight}
use Rattle.rounding_laws.proofs.Rounded.{rounded_of_gap, gap_of_rounded}
use Rattle.rounding_laws.proofs.Allowed.{allows_of_gap, gap_of_allows}
use Rattle.bounded_flow.specs.declared.edge.Edge.{Edge}
use Rattle.bounded_flow.specs.declared.search.Adjacency.{Adjacency}
use Rattle.bounded_flow.specs.declared.search.Search.{Search}
use Rattle.bounded_flow.specs.Edges.{rest_of, gap_of, IsSound}
use Rattle.bounded_flow.specs.Flows.{Balanced}
use Rattle.bounded_flow.specs.Nets.{IsNet, set_cells_of}
use Rattle.bounded_flow.specs.Webs.{IsWeb, node_count}

-- a number of the edges of the cells, row by row
abbrev pub cell_values : (Edge → ℕ) → ℕ → List Edge → List ℕ
cell_values val cells edges = map val (take cells edges)

-- the gap that an edge keeps is the distance of its remainder from the weight left times its whole units
pub gap_same : (left : ℕ) (e : Edge) → IsSound left e → gap e.whole (rest_of left e) left ≡ gap_of e
gap_same left e sound = elim sound.one_side [
  | inl none ↦ omega (arith, none, sound.over_whole)
  | inr none ↦ omega (arith, none)
]

rest_low : (left : ℕ) (e : Edge) → IsSound left e → rest_of left e ≤ 1000 * left
rest_low left e sound = omega (arith, sound.rest_few)

pub values_many : (val : Edge → ℕ) (cells : ℕ) (edges : List Edge) → cells ≤ length edges → length (cell_values val cells edges) ≡ cells
values_many val cells edges h = length-map (take cells edges) val ∙ length-take-le cells edges h

-- the number of a cell is that of its edge
pub value_of_cell : (val : Edge → ℕ) (cells i : ℕ) (d : Edge) (edges : List Edge) → cells ≤ length edges → i < cells → get_or (cell_values val cells edges) i 0 ≡ val (get_or edges i d)
value_of_cell val cells i d edges h l =
    get_or-map val (take cells edges) i d 0 (omega (arith, length-take-le cells edges h, l)) ∙ ap val (get_or-take cells edges i d l)

-- an edge to stand where there is none
abbrev pub nothing : Edge
nothing = record { tail = 0; head = 0; whole = 0; under = 0; over = 0 }

module _ (agents columns left : ℕ) (sets : List SideSet) (edges : List Edge) (adjacency : Adjacency) (search : Search) (web : IsWeb agents columns left sets edges adjacency search) where
  enough : agents * columns ≤ length edges
  enough = (let m = web.many in omega (arith, m))

  -- a net is lawful
  pub net_lawful : IsNet (record { agents = agents; columns = columns; sets = sets; rest = cell_values (rest_of left) (agents * columns) edges; left = left; whole = cell_values (λ e. e.whole) (agents * columns) edges })
  net_lawful = record {
    agents_limit = web.lawful.agents_limit;
    columns_limit = web.lawful.columns_limit;
    sets_limit = web.lawful.sets_limit;
    sides = web.lawful.sides;
    apart = web.lawful.apart;
    inside = web.lawful.inside;
    rest_shape = values_many (rest_of left) (agents * columns) edges enough;
    whole_shape = values_many (λ e. e.whole) (agents * columns) edges enough;
    left_limit = web.left_limit;
    rest_limit = All-map (λ y. y ≤ 1000 * left) (rest_of left) (take (agents * columns) edges) (All-weaker (IsSound left) (λ e. rest_of left e ≤ 1000 * left) (rest_low left) (take (agents * columns) edges) (All-take (IsSound left) (agents * columns) edges web.flow.sound));
    total = subst (λ (t : ℕ). t ≤ 1000 * 2 ^ 116) (sym (sum-map (rest_of left) (take (agents * columns) edges))) web.total;
    whole_limit = All-map (λ y. y ≤ 1000) (λ e. e.whole) (take (agents * columns) edges) (All-weaker (IsSound left) (λ e. e.whole ≤ 1000) (λ e sound. sound.few) (take (agents * columns) edges) (All-take (IsSound left) (agents * columns) edges web.flow.sound));
  }

  -- the sum over a set is the number of its edge
  pub value_of_set : (val : Edge → ℕ) → Balanced val edges (node_count sets) → (k : ℕ) (s : List Cell) (d : Edge) → k < length sets → set_sum (unit_at columns (cell_values val (agents * columns) edges)) (get_or (set_cells_of sets) k s) ≡ val (get_or edges (agents * columns + k) d)
  value_of_set val balanced k s d h =
      let many : length (set_cells_of sets) ≡ length sets = length-map sets (λ (q : SideSet). q.cells) in
      sym (web.adds edges val refl (subst (λ (n : ℕ). Balanced val edges (n + 1)) (sym many) balanced) k (get_or (set_cells_of sets) k s) d (slice_get-get_or (set_cells_of sets) k s (omega (arith, many, h))))

  set_edge_within : (k : ℕ) → k < length sets → agents * columns + k < length edges
  set_edge_within k h = (let m = web.many in omega (arith, m, h))

  -- what holds of the numbers of an edge holds at its cell, and back
  at_cell : (P : ℕ → ℕ → Type 0) (i : ℕ) → i < agents * columns → P (rest_of left (get_or edges i nothing)) (get_or edges i nothing).whole
      → P (get_or (cell_values (rest_of left) (agents * columns) edges) i 0) (get_or (cell_values (λ e. e.whole) (agents * columns) edges) i 0)
  at_cell P i h p =
      subst (λ (m : ℕ). P (get_or (cell_values (rest_of left) (agents * columns) edges) i 0) m) (sym (value_of_cell (λ e. e.whole) (agents * columns) i nothing edges enough h))
      (subst (λ (y : ℕ). P y (get_or edges i nothing).whole) (sym (value_of_cell (rest_of left) (agents * columns) i nothing edges enough h)) p)

  of_cell : (P : ℕ → ℕ → Type 0) (i : ℕ) → i < agents * columns → P (get_or (cell_values (rest_of left) (agents * columns) edges) i 0) (get_or (cell_values (λ e. e.whole) (agents * columns) edges) i 0)
      → P (rest_of left (get_or edges i nothing)) (get_or edges i nothing).whole
  of_cell P i h p =
      subst (λ (y : ℕ). P y (get_or edges i nothing).whole) (value_of_cell (rest_of left) (agents * columns) i nothing edges enough h)
      (subst (λ (m : ℕ). P (get_or (cell_values (rest_of left) (agents * columns) edges) i 0) m) (value_of_cell (λ e. e.whole) (agents * columns) i nothing edges enough h) p)

  -- and so at a set
  at_set : (P : ℕ → ℕ → Type 0) (k : ℕ) (s : List Cell) → k < length sets → P (rest_of left (get_or edges (agents * columns + k) nothing)) (get_or edges (agents * columns + k) nothing).whole
      → P (set_sum (unit_at columns (cell_values (rest_of left) (agents * columns) edges)) (get_or (set_cells_of sets) k s)) (set_sum (unit_at columns (cell_values (λ e. e.whole) (agents * columns) edges)) (get_or (set_cells_of sets) k s))
  at_set P k s h p =
      subst (λ (m : ℕ). P (set_sum (unit_at columns (cell_values (rest_of left) (agents * columns) edges)) (get_or (set_cells_of sets) k s)) m) (sym (value_of_set (λ e. e.whole) web.flow.whole k s nothing h))
      (subst (λ (y : ℕ). P y (get_or edges (agents * columns + k) nothing).whole) (sym (value_of_set (rest_of left) web.flow.rests k s nothing h)) p)

  of_set : (P : ℕ → ℕ → Type 0) (k : ℕ) (s : List Cell) → k < length sets
      → P (set_sum (unit_at columns (cell_values (rest_of left) (agents * columns) edges)) (get_or (set_cells_of sets) k s)) (set_sum (unit_at columns (cell_values (λ e. e.whole) (agents * columns) edges)) (get_or (set_cells_of sets) k s))
      → P (rest_of left (get_or edges (agents * columns + k) nothing)) (get_or edges (agents * columns + k) nothing).whole
  of_set P k s h p =
      subst (λ (y : ℕ). P y (get_or edges (agents * columns + k) nothing).whole) (value_of_set (rest_of left) web.flow.rests k s nothing h)
      (subst (λ (m : ℕ). P (set_sum (unit_at columns (cell_values (rest_of left) (agents * columns) edges)) (get_or (set_cells_of sets) k s)) m) (value_of_set (λ e. e.whole) web.flow.whole k s nothing h) p)

  cell_low : (i : ℕ) → i < length (cell_values (rest_of left) (agents * columns) edges) → i < agents * columns
  cell_low i h = omega (arith, h, values_many (rest_of left) (agents * columns) edges enough)

  set_low : (k : ℕ) → k < length (set_cells_of sets) → k < length sets
  set_low k h = omega (arith, h, length-map sets (λ (q : SideSet). q.cells))

  -- the gap at an edge, of its numbers
  gap_at : (j : ℕ) → j < length edges → gap (get_or edges j nothing).whole (rest_of left (get_or edges j nothing)) left ≡ gap_of (get_or edges j nothing)
  gap_at j h = gap_same left (get_or edges j nothing) (web.flow.sound j nothing h)

  -- what holds of each cell's and each set's edge holds of each edge
  each_edge : (P : Edge → Type 0) → ((i : ℕ) → i < agents * columns → P (get_or edges i nothing)) → ((k : ℕ) → k < length sets → P (get_or edges (agents * columns + k) nothing)) → All P edges
  each_edge P of_cells of_sets = All-from_get_or P edges nothing (λ j h. elim (cases_lt j (agents * columns)) [
    | inl low ↦ of_cells j low
    | inr high ↦ (
        let m = web.many in
        let k : ℕ = j - agents * columns in
        let is : agents * columns + k ≡ j = omega arith in
        subst (λ (t : ℕ). P (get_or edges t nothing)) is (of_sets k (omega (arith, m, h, high))))
  ])

  cell_edge_within : (i : ℕ) → i < agents * columns → i < length edges
  cell_edge_within i h = (let m = enough in omega (arith, m, h))

  -- the matrix rounds what is left where every gap is below the weight left
  pub all_round : 1 ≤ left → All (λ e. gap_of e < left) edges → Rounds columns (set_cells_of sets) (cell_values (rest_of left) (agents * columns) edges) left (cell_values (λ e. e.whole) (agents * columns) edges)
  all_round one near = record {
    shape = values_many (λ e. e.whole) (agents * columns) edges enough ∙ sym (values_many (rest_of left) (agents * columns) edges enough);
    cells = λ i h. at_cell (λ y m. IsRounded y left m) i (cell_low i h) (edge_rounds i (cell_edge_within i (cell_low i h)));
    sums = λ k s h. at_set (λ y m. IsRounded y left m) k s (set_low k h) (edge_rounds (agents * columns + k) (set_edge_within k (set_low k h)));
  }
    where
      edge_rounds : (j : ℕ) → j < length edges → IsRounded (rest_of left (get_or edges j nothing)) left (get_or edges j nothing).whole
      edge_rounds j h = rounded_of_gap (rest_of left (get_or edges j nothing)) left (get_or edges j nothing).whole one (omega (arith, gap_at j h, near j nothing h))

  module _ (one : 1 ≤ left) (rounds : Rounds columns (set_cells_of sets) (cell_values (rest_of left) (agents * columns) edges) left (cell_values (λ e. e.whole) (agents * columns) edges)) where
    round_cell : (i : ℕ) → i < agents * columns → IsRounded (rest_of left (get_or edges i nothing)) left (get_or edges i nothing).whole
    round_cell i h = of_cell (λ y m. IsRounded y left m) i h (rounds.cells i (let e = values_many (rest_of left) (agents * columns) edges enough in omega (arith, e, h)))

    round_set : (k : ℕ) → k < length sets → IsRounded (rest_of left (get_or edges (agents * columns + k) nothing)) left (get_or edges (agents * columns + k) nothing).whole
    round_set k h = of_set (λ y m. IsRounded y left m) k [] h (rounds.sums k [] (let e = length-map sets (λ (q : SideSet). q.cells) in omega (arith, e, h)))

    -- where the matrix rounds what is left, every gap is below the weight left
    pub all_near : All (λ e. gap_of e < left) edges
    all_near = each_edge (λ e. gap_of e < left)
        (λ i h. near i (cell_edge_within i h) (round_cell i h))
        (λ k h. near (agents * columns + k) (set_edge_within k h) (round_set k h))
      where
        near : (j : ℕ) → j < length edges → IsRounded (rest_of left (get_or edges j nothing)) left (get_or edges j nothing).whole → gap_of (get_or edges j nothing) < left
        near j h r = omega (arith, gap_at j h, gap_of_rounded (rest_of left (get_or edges j nothing)) left (get_or edges j nothing).whole one r)

    -- a weight fits where it and each gap are at most the weight left
    pub all_fit : (w : ℕ) → w ≤ left → All (λ e. gap_of e ≤ left - w) edges
        → AllAllow columns (set_cells_of sets) (cell_values (rest_of left) (agents * columns) edges) left (cell_values (λ e. e.whole) (agents * columns) edges) w
    all_fit w most near = record {
      cells = λ i h. at_cell (λ y m. Allows y left m w) i (cell_low i h) (fits i (cell_edge_within i (cell_low i h)) (round_cell i (cell_low i h)));
      sums = λ k s h. at_set (λ y m. Allows y left m w) k s (set_low k h) (fits (agents * columns + k) (set_edge_within k (set_low k h)) (round_set k (set_low k h)));
    }
      where
        fits : (j : ℕ) → j < length edges → IsRounded (rest_of left (get_or edges j nothing)) left (get_or edges j nothing).whole → Allows (rest_of left (get_or edges j nothing)) left (get_or edges j nothing).whole w
        fits j h r = allows_of_gap (rest_of left (get_or edges j nothing)) left (get_or edges j nothing).whole w one most r (omega (arith, gap_at j h, near j nothing h))

    -- and only there
    pub all_far : (w : ℕ) → w ≤ left → AllAllow columns (set_cells_of sets) (cell_values (rest_of left) (agents * columns) edges) left (cell_values (λ e. e.whole) (agents * columns) edges) w
        → All (λ e. gap_of e ≤ left - w) edges
    all_far w most allow = each_edge (λ e. gap_of e ≤ left - w)
        (λ i h. far i (cell_edge_within i h) (round_cell i h) (of_cell (λ y m. Allows y left m w) i h (allow.cells i (let e = values_many (rest_of left) (agents * columns) edges enough in omega (arith, e, h)))))
        (λ k h. far (agents * columns + k) (set_edge_within k h) (round_set k h) (of_set (λ y m. Allows y left m w) k [] h (allow.sums k [] (let e = length-map sets (λ (q : SideSet). q.cells) in omega (arith, e, h)))))
      where
        far : (j : ℕ) → j < length edges → IsRounded (rest_of left (get_or edges j nothing)) left (get_or edges j nothing).whole → Allows (rest_of left (get_or edges j nothing)) left (get_or edges j nothing).whole w → gap_of (get_or edges j nothing) ≤ left - w
        far j h r a = omega (arith, gap_at j h, gap_of_allows (rest_of left (get_or edges j nothing)) left (get_or edges j nothing).whole w one most r a)

  -- where a gap and the weight make up the weight left, the weight is tight
  pub tight_at : (w j : ℕ) → j < length edges → gap_of (get_or edges j nothing) + w ≡ left
      → IsTight columns (set_cells_of sets) (cell_values (rest_of left) (agents * columns) edges) left (cell_values (λ e. e.whole) (agents * columns) edges) w
  tight_at w j h is = elim (cases_lt j (agents * columns)) [
    | inl low ↦ inl (j, (let e = values_many (rest_of left) (agents * columns) edges enough in omega (arith, e, low)), at_cell (λ y m. gap m y left + w ≡ left) j low (omega (arith, gap_at j h, is)))
    | inr high ↦ (
        let m = web.many in
        let k : ℕ = j - agents * columns in
        let low : k < length sets = omega (arith, m, h, high) in
        let same : j ≡ agents * columns + k = omega arith in
        let there : gap_of (get_or edges (agents * columns + k) nothing) + w ≡ left = subst (λ (t : ℕ). gap_of (get_or edges t nothing) + w ≡ left) same is in
        let e : length (set_cells_of sets) ≡ length sets = length-map sets (λ (q : SideSet). q.cells) in
        inr (
          k,
          get_or (set_cells_of sets) k [],
          slice_get-get_or (set_cells_of sets) k [] (omega (arith, e, low)),
          at_set (λ y m. gap m y left + w ≡ left) k [] low (omega (arith, gap_at (agents * columns + k) (set_edge_within k low), there)),
        ))
  ]
