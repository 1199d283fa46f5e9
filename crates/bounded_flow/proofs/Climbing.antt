-- Units that are put on the edges of a set and all sets above it.
use Rattle.std.proofs.Common.{◌≡◌, ℕ, ◌+◌, ◌-◌, ◌<◌, ◌≤◌, ◌∙◌, List, [], ◌∷◌, Option, Some, None, length, map, get_or, set, cond, eqb, Bool, true, false, inl, inr, ap, sym, subst, refl, arith, All, length-set}
use Rattle.std.specs.Prelude.{nat_eq, IfSome}
use Rattle.std.specs.List.{IsDistinct}
use Rattle.std.specs.Set.{is_member}
use Rattle.std.proofs.lemmas.Bool.{or_left, or_right, eq-eqb, both_ways, cases_lt, cases_eq}
use Rattle.std.proofs.lemmas.List.{get_or_default, get_or-set_same, get_or-set_other, get_or-map, length-map, map-set, set-get_or, set_past, get_or_past}
use Rattle.std.proofs.lemmas.List.Elements.{All-set}
use Rattle.std.proofs.lemmas.List.Sums.{sum_by-set}
use Rattle.definitions.proofs.Members.{distinct_first, distinct_rest}
use Rattle.std.proofs.lemmas.Option.{MatchOption-at_some}
use Rattle.definitions.specs.Sets.{FamilyValue, IsFamily, IsSet, set_side}
use Rattle.definitions.specs.Trees.{TreesValue, AreTreesOf, parent_at, chain_of}
use Rattle.side_laws.proofs.Trees.{IsSetOrNone, parent_is, chain_keeps, chain_step, chain_none, parent_chain_without}
use Rattle.bounded_flow.specs.declared.edge.Edge.{Edge}
use Rattle.bounded_flow.specs.Edges.{wire}
use Rattle.bounded_flow.specs.Flows.{Balanced, Owes, out_of, into}
use Rattle.bounded_flow.specs.Loads.{IsUnused, empty_edge, raised, climbed}

-- the edge at a place, and one with nothing on it where there is none
abbrev pub edge_at : List Edge → ℕ → Edge
edge_at edges b = get_or edges b (empty_edge (0, 0))

-- what doesn't read the units stays
raised_keeps : {Y : Type 0} (g : Edge → Y) → ((e : Edge) (n : ℕ) → g (record e { under = n }) ≡ g e) → (units b : ℕ) (edges : List Edge) → map g (raised units b edges) ≡ map g edges
raised_keeps g blind units b edges =
    let e = edge_at edges b in
    let x : Edge = record e { under = e.under + units } in
    map-set g edges b x ∙ elim (cases_lt b (length edges)) [
      | inl l ↦ ap (λ y. set (map g edges) b y) (blind e (e.under + units) ∙ sym (get_or-map g edges b (empty_edge (0, 0)) (g e) l)) ∙ set-get_or (map g edges) b (g e)
      | inr l ↦ set_past (map g edges) b (g x) (let same = length-map edges g in omega arith)
    ]

pub raised_wires : (units b : ℕ) (edges : List Edge) → map wire (raised units b edges) ≡ map wire edges
raised_wires units b edges = raised_keeps wire (λ e n. refl) units b edges

pub climbed_wires : (cells units : ℕ) (sets : List ℕ) (edges : List Edge) → map wire (climbed cells units sets edges) ≡ map wire edges
climbed_wires cells units [] edges = refl
climbed_wires cells units (s ∷ sets) edges = climbed_wires cells units sets (raised units (cells + s - 1) edges) ∙ raised_wires units (cells + s - 1) edges

pub raised_unused : (units b : ℕ) (edges : List Edge) → All IsUnused edges → All IsUnused (raised units b edges)
raised_unused units b edges h =
    let e = edge_at edges b in
    All-set IsUnused edges b (record e { under = e.under + units }) (elim (cases_lt b (length edges)) [
      | inl l ↦ h b (empty_edge (0, 0)) l
      | inr l ↦ subst IsUnused (sym (get_or_past edges b (empty_edge (0, 0)) l)) (refl, refl)
    ]) h

pub climbed_unused : (cells units : ℕ) (sets : List ℕ) (edges : List Edge) → All IsUnused edges → All IsUnused (climbed cells units sets edges)
climbed_unused cells units [] edges h = h
climbed_unused cells units (s ∷ sets) edges h = climbed_unused cells units sets (raised units (cells + s - 1) edges) (raised_unused units (cells + s - 1) edges h)

pub climbed_many : (cells units : ℕ) (sets : List ℕ) (edges : List Edge) → length (climbed cells units sets edges) ≡ length edges
climbed_many cells units [] edges = refl
climbed_many cells units (s ∷ sets) edges = climbed_many cells units sets (raised units (cells + s - 1) edges) ∙ length-set edges (cells + s - 1) (let e = edge_at edges (cells + s - 1) in record e { under = e.under + units })

-- the units on the edge itself
pub raised_here : (units b : ℕ) (edges : List Edge) (d : Edge) → b < length edges → (get_or (raised units b edges) b d).under ≡ (get_or edges b d).under + units
raised_here units b edges d l =
    let e = edge_at edges b in
    ap (λ (x : Edge). x.under) (get_or-set_same edges b (record e { under = e.under + units }) d l)
    ∙ ap (λ (x : Edge). x.under + units) (get_or_default edges b (empty_edge (0, 0)) d l)

-- and on another
pub raised_other : (units b k : ℕ) (edges : List Edge) (d : Edge) → (k ≡ b → ⊥) → get_or (raised units b edges) k d ≡ get_or edges k d
raised_other units b k edges d other = let e = edge_at edges b in get_or-set_other edges b k (record e { under = e.under + units }) d other

-- the edges of other sets and of cells stay
pub climbed_off : (cells units : ℕ) (sets : List ℕ) (edges : List Edge) (k : ℕ) (d : Edge) → ((s : ℕ) → is_member nat_eq sets s ≡ true → k ≡ cells + s - 1 → ⊥)
    → get_or (climbed cells units sets edges) k d ≡ get_or edges k d
climbed_off cells units [] edges k d off = refl
climbed_off cells units (s ∷ sets) edges k d off =
    climbed_off cells units sets (raised units (cells + s - 1) edges) k d (λ u m. off u (or_right (nat_eq u s) (is_member nat_eq sets u) m))
    ∙ raised_other units (cells + s - 1) k edges d (off s (or_left (nat_eq s s) (is_member nat_eq sets s) (eq-eqb s s refl)))

member_along : (sets : List ℕ) (u s : ℕ) → u ≡ s → is_member nat_eq sets u ≡ true → is_member nat_eq sets s ≡ true
member_along sets u s e m = subst (λ n. is_member nat_eq sets n ≡ true) e m

-- where no set stands there twice, no edge gets more than the units
climbed_most : (cells units : ℕ) (sets : List ℕ) (edges : List Edge) (k : ℕ) (d : Edge) → IsDistinct nat_eq sets → ((s : ℕ) → is_member nat_eq sets s ≡ true → 0 < s) → k < length edges
    → (get_or (climbed cells units sets edges) k d).under ≤ (get_or edges k d).under + units
climbed_most cells units [] edges k d distinct some l = omega arith
climbed_most cells units (s ∷ sets) edges k d distinct some l =
    let b = cells + s - 1 in
    let this : 0 < s = some s (or_left (nat_eq s s) (is_member nat_eq sets s) (eq-eqb s s refl)) in
    let later : (u : ℕ) → is_member nat_eq sets u ≡ true → 0 < u = λ u m. some u (or_right (nat_eq u s) (is_member nat_eq sets u) m) in
    elim (cases_eq k b) [
      | inl same ↦ (
          let off = climbed_off cells units sets (raised units b edges) k d (λ u m e. (
          let low = later u m in
          let one : u ≡ s = omega arith in
          both_ways (is_member nat_eq sets s) (distinct_first nat_eq s sets distinct) (member_along sets u s one m))) in
          let here : (get_or (raised units b edges) k d).under ≡ (get_or edges k d).under + units = subst (λ n. (get_or (raised units b edges) n d).under ≡ (get_or edges n d).under + units) (sym same) (raised_here units b edges d (omega arith)) in
          omega (arith, ap (λ (e : Edge). e.under) off, here))
      | inr other ↦ (
          let rest = climbed_most cells units sets (raised units b edges) k d (distinct_rest nat_eq s sets distinct) later
          (let e = edge_at edges b in let m = length-set edges b (record e { under = e.under + units }) in omega arith) in
          omega (arith, rest, ap (λ (e : Edge). e.under) (raised_other units b k edges d other)))
    ]

pub climbed_bound : (cells units most : ℕ) (sets : List ℕ) (edges : List Edge) → IsDistinct nat_eq sets → ((s : ℕ) → is_member nat_eq sets s ≡ true → 0 < s)
    → All (λ e. e.under ≤ most) edges → All (λ e. e.under ≤ most + units) (climbed cells units sets edges)
climbed_bound cells units most sets edges distinct some small k d l =
    let inside : k < length edges = (let m = climbed_many cells units sets edges in omega arith) in
    omega (arith, climbed_most cells units sets edges k d distinct some inside, small k d inside)

added : (b : Bool) (m u : ℕ) → cond b (m + u) 0 ≡ cond b m 0 + cond b u 0
added true m u = refl
added false m u = refl

-- what flows out of a node and into it, with more units on an edge
raised_out : (units b : ℕ) (edges : List Edge) (v : ℕ) → b < length edges
    → out_of (λ e. e.under) (raised units b edges) v ≡ out_of (λ e. e.under) edges v + cond (eqb (edge_at edges b).tail v) units 0
raised_out units b edges v l =
    let e = edge_at edges b in
    let more = added (eqb e.tail v) e.under units in
    let sums = sum_by-set (λ (x : Edge). cond (eqb x.tail v) x.under 0) edges b (record e { under = e.under + units }) (empty_edge (0, 0)) l in
    omega (arith, more, sums)

raised_into : (units b : ℕ) (edges : List Edge) (v : ℕ) → b < length edges
    → into (λ e. e.under) (raised units b edges) v ≡ into (λ e. e.under) edges v + cond (eqb (edge_at edges b).head v) units 0
raised_into units b edges v l =
    let e = edge_at edges b in
    let more = added (eqb e.head v) e.under units in
    let sums = sum_by-set (λ (x : Edge). cond (eqb x.head v) x.under 0) edges b (record e { under = e.under + units }) (empty_edge (0, 0)) l in
    omega (arith, more, sums)

-- units on an edge from its tail to its head: where all was in balance, the head owes them, and the tail lacks them
pub raised_first : (units b n : ℕ) (edges : List Edge) (w : ℕ × ℕ) → b < length edges → wire (edge_at edges b) ≡ w
    → Balanced (λ e. e.under) edges n → Owes (λ e. e.under) (raised units b edges) n w.1 w.0 units
raised_first units b n edges w l e h = record {
  at = λ v m. (
      let tail = ap (λ (x : ℕ × ℕ). cond (eqb x.0 v) units 0) e in
      let head = ap (λ (x : ℕ × ℕ). cond (eqb x.1 v) units 0) e in
      omega (arith, raised_out units b edges v l, raised_into units b edges v l, h v m, tail, head));
}

-- the debt moves from the head to the tail
pub raised_tail : (units b n from : ℕ) (edges : List Edge) (w : ℕ × ℕ) → b < length edges → wire (edge_at edges b) ≡ w
    → Owes (λ e. e.under) edges n from w.1 units → Owes (λ e. e.under) (raised units b edges) n from w.0 units
raised_tail units b n from edges w l e h = record {
  at = λ v m. (
      let tail = ap (λ (x : ℕ × ℕ). cond (eqb x.0 v) units 0) e in
      let head = ap (λ (x : ℕ × ℕ). cond (eqb x.1 v) units 0) e in
      omega (arith, raised_out units b edges v l, raised_into units b edges v l, h.at v m, tail, head));
}

-- or from the tail to the head
pub raised_head : (units b n to : ℕ) (edges : List Edge) (w : ℕ × ℕ) → b < length edges → wire (edge_at edges b) ≡ w
    → Owes (λ e. e.under) edges n w.0 to units → Owes (λ e. e.under) (raised units b edges) n w.1 to units
raised_head units b n to edges w l e h = record {
  at = λ v m. (
      let tail = ap (λ (x : ℕ × ℕ). cond (eqb x.0 v) units 0) e in
      let head = ap (λ (x : ℕ × ℕ). cond (eqb x.1 v) units 0) e in
      omega (arith, raised_out units b edges v l, raised_into units b edges v l, h.at v m, tail, head));
}

module _ (f : FamilyValue) (family : IsFamily f) (t : TreesValue) (r : AreTreesOf f t) where
  -- a set that is there is a set of the family
  pub known_of : (o : Option ℕ) → IfSome o (IsSet f) → IsSetOrNone f family.lawful t r o
  known_of o h s e = MatchOption-at_some (Unit {0}) (IsSet f) s e h

  pub some_of : (o : Option ℕ) → IsSetOrNone f family.lawful t r o → IfSome o (IsSet f)
  some_of None h = tt
  some_of (Some s) h = h s refl

  -- each set of a chain is a set of the family
  pub chain_sets : (o : Option ℕ) → IfSome o (IsSet f) → (u : ℕ) → is_member nat_eq (chain_of t o) u ≡ true → IsSet f u
  chain_sets o h u m = (chain_keeps f family.lawful t r (λ s. Unit {0}) (λ s p q known parent. tt) o (known_of o h) (λ s e. tt) u m).0

  -- a chain begins with its set
  pub chain_first : (s : ℕ) → IsSet f s → is_member nat_eq (chain_of t (Some s)) s ≡ true
  chain_first s known = rw (chain_step f family.lawful t r s known) (or_left (nat_eq s s) (is_member nat_eq (chain_of t (parent_at t s)) s) (eq-eqb s s refl))

  -- and goes on with the chain of the parent
  pub chain_next : (s : ℕ) → IsSet f s → (u : ℕ) → is_member nat_eq (chain_of t (parent_at t s)) u ≡ true → is_member nat_eq (chain_of t (Some s)) u ≡ true
  chain_next s known u m = rw (chain_step f family.lawful t r s known) (or_right (nat_eq u s) (is_member nat_eq (chain_of t (parent_at t s)) u) m)

  -- the chain of the parent is shorter
  pub chain_falls : (s : ℕ) → IsSet f s → length (chain_of t (parent_at t s)) < length (chain_of t (Some s))
  chain_falls s known = rw (chain_step f family.lawful t r s known) (omega arith)

  -- the set isn't on the chain of its parent
  pub chain_leaves : (s u : ℕ) → IsSet f s → is_member nat_eq (chain_of t (parent_at t s)) u ≡ true → u ≡ s → ⊥
  chain_leaves s u known m e = both_ways (is_member nat_eq (chain_of t (parent_at t s)) s) (parent_chain_without f family.lawful t r s known) (member_along (chain_of t (parent_at t s)) u s e m)

  -- one step up: the units on the set's edge, and then up the chain of the parent
  pub climbed_step : (cells units s : ℕ) (edges : List Edge) → IsSet f s
      → climbed cells units (chain_of t (parent_at t s)) (raised units (cells + s - 1) edges) ≡ climbed cells units (chain_of t (Some s)) edges
  climbed_step cells units s edges known = ap (λ sets. climbed cells units sets edges) (sym (chain_step f family.lawful t r s known))

  -- from no set nothing is done
  pub climbed_none : (cells units : ℕ) (edges : List Edge) → climbed cells units (chain_of t None) edges ≡ edges
  climbed_none cells units edges = ap (λ sets. climbed cells units sets edges) (chain_none t)

  -- a parent has the side of its set
  pub side_up : (s p : ℕ) → IsSet f s → parent_at t s ≡ Some p → set_side f p ≡ set_side f s
  side_up s p known e = sym (parent_is f family.lawful t r s p known e).above.sides
