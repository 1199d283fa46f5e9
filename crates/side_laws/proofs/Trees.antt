-- Chains in the trees of a lawful family.
use Rattle.std.proofs.Common.{◌≡◌, ℕ, ◌<◌, ◌≤◌, ◌⊎◌, ◌↔◌, ◌∙◌, List, [], ◌∷◌, ◌++◌, Option, Some, None, true, false, refl, sym, ap, subst, inl, inr, arith, All}
use Rattle.std.specs.Prelude.{nat_eq}
use Rattle.std.specs.List.{IsDistinct}
use Rattle.std.specs.Set.{is_member}
use Rattle.std.proofs.lemmas.Bool.{both_ways, false_from_ne_true, or_cases, or_right, eqb-true}
use Rattle.std.proofs.lemmas.Option.{MatchOption-at_some, MatchOption-at_none, same_Some}
use Rattle.definitions.specs.declared.Cell.{Cell}
use Rattle.definitions.specs.Sets.{FamilyValue, same_cell, holds, is_subset, IsQuotaSet, IsSet, IsCellWithin, set_cells, set_size, set_side}
use Rattle.definitions.specs.Hierarchies.{IsLower, IsAbove, IsParent, HasNoParent, IsHolder, IsDeepest}
use Rattle.definitions.specs.Trees.{TreesValue, AreTreesOf, parent_at, deepest_at, chain_of}
use Rattle.definitions.proofs.Members.{cell_test, all_members, all_from_members}
use Rattle.definitions.proofs.Families.{is_lower, lower_true, lower_from, lower_through}
use Rattle.side_laws.proofs.Chains.{IsUpward, IsWayUp, IsFirstOf, climb_none, climb_step, climb_distinct, climb_has, climb_meets, climb_suffix, members_keep, members_rise, rest_rises}
use Rattle.side_laws.proofs.Order.{lower_self, above_lower, lower_above, above_at_cell, holds_some, some_held}

-- the chain of no set is empty
pub chain_none : (t : TreesValue) → chain_of t None ≡ []
unfolding chain_of
chain_none t = climb_none t.parents t.sets

module _ (f : FamilyValue) (lawful : All IsQuotaSet f.sets) (t : TreesValue) (r : AreTreesOf f t) where
  -- the number of a set of the family, where there is one
  abbrev pub IsSetOrNone : Option ℕ → Type 0
  IsSetOrNone o = (s : ℕ) → o ≡ Some s → IsSet f s

  set_of : (s : ℕ) → 0 < s → s ≤ t.sets → IsSet f s
  set_of s low high = (low, (let n = r.sets in omega (arith, high, n)))

  number_of : (s : ℕ) → IsSet f s → s ≤ t.sets
  number_of s known = (let n = r.sets in let high = known.1 in omega (arith, high, n))

  -- the parent in the tables is the parent
  pub parent_is : (s p : ℕ) → IsSet f s → parent_at t s ≡ Some p → IsParent f s p
  parent_is s p known e = MatchOption-at_some (HasNoParent f s) (IsParent f s) p e (r.parents s known)

  -- the parent is a set of the family
  pub parent_known : (s : ℕ) → IsSet f s → IsSetOrNone (parent_at t s)
  parent_known s known p e = (parent_is s p known e).above.known

  -- each parent comes after its set
  upward : IsUpward t.sets (is_lower f) t.parents
  upward = record {
    irreflexive = lower_self f;
    transitive = λ s u v h k. lower_from f s v (lower_through f s u v (lower_true f s u h) (lower_true f u v k));
    up = λ s p low high e. (let known = set_of s low high in let q = parent_is s p known e in
        (q.above.known.0, number_of p q.above.known, lower_from f s p (above_lower f lawful s p known q.above)));
  }

  -- the set itself, and then the chain of its parent
  pub chain_step : (s : ℕ) → IsSet f s → chain_of t (Some s) ≡ s ∷ chain_of t (parent_at t s)
  unfolding chain_of
  chain_step s known = climb_step t.sets (is_lower f) t.parents upward s known.0 (number_of s known)

  -- what holds of a set, and of a parent where it holds of its set, holds of each set of its chain
  pub chain_keeps : (Q : ℕ → Type 0) → ((s p : ℕ) → Q s → IsSet f s → IsParent f s p → Q p) → (o : Option ℕ) → IsSetOrNone o → ((s : ℕ) → o ≡ Some s → Q s)
      → (u : ℕ) → is_member nat_eq (chain_of t o) u ≡ true → IsSet f u × Q u
  unfolding chain_of
  chain_keeps Q step o known h u m =
      members_keep t.sets (is_lower f) t.parents upward (λ s. IsSet f s × Q s)
      (λ s p q e. (let parent = parent_is s p q.0 e in (parent.above.known, step s p q.1 q.0 parent)))
      t.sets o (λ s e. (known s e, h s e)) u m

  -- the sets of a chain are of one side and contain the first
  pub chain_rises : (s : ℕ) → IsSet f s → (u : ℕ) → is_member nat_eq (chain_of t (Some s)) u ≡ true
      → IsSet f u × (set_side f u ≡ set_side f s) × (is_subset (set_cells f s) (set_cells f u) ≡ true)
  chain_rises s known u m =
      let Q : ℕ → Type 0 = λ v. (set_side f v ≡ set_side f s) × (is_subset (set_cells f s) (set_cells f v) ≡ true) in
      let x = chain_keeps Q
      (λ v p q known_v parent. (
        sym parent.above.sides ∙ q.0,
        all_from_members same_cell cell_test (holds (set_cells f p)) (set_cells f s)
            (λ c m. all_members same_cell cell_test (holds (set_cells f p)) (set_cells f v) parent.above.contains c (all_members same_cell cell_test (holds (set_cells f v)) (set_cells f s) q.1 c m)),
      ))
      (Some s) (λ v e. subst (IsSet f) (same_Some s v e) known)
      (λ v e. subst Q (same_Some s v e) (refl, all_from_members same_cell cell_test (holds (set_cells f s)) (set_cells f s) (λ c m. m))) u m in
      (x.0, x.1.0, x.1.1)

  -- each set of a chain is the first or comes after it
  pub chain_after : (s : ℕ) → IsSet f s → (u : ℕ) → is_member nat_eq (chain_of t (Some s)) u ≡ true → (u ≡ s) ⊎ IsLower f s u
  unfolding chain_of
  chain_after s known u m = elim (members_rise t.sets (is_lower f) t.parents upward t.sets s known.0 (number_of s known) u m) [
    | inl same ↦ inl same
    | inr after ↦ inr (lower_true f s u after)
  ]

  -- each set of the chain of the parent comes after the set
  pub parent_chain_after : (s : ℕ) → IsSet f s → (u : ℕ) → is_member nat_eq (chain_of t (parent_at t s)) u ≡ true → IsLower f s u
  unfolding chain_of
  parent_chain_after s known u m =
      lower_true f s u (rest_rises t.sets (is_lower f) t.parents upward t.sets s known.0 (number_of s known) (parent_at t s) refl u m)

  -- a chain has no set twice
  pub chain_distinct : (o : Option ℕ) → IsSetOrNone o → IsDistinct nat_eq (chain_of t o)
  unfolding chain_of
  chain_distinct o known = climb_distinct t.sets (is_lower f) t.parents upward t.sets o (λ s e. ((known s e).0, number_of s (known s e)))

  -- a set isn't in the chain of its parent
  pub parent_chain_without : (s : ℕ) → IsSet f s → is_member nat_eq (chain_of t (parent_at t s)) s ≡ false
  parent_chain_without s known =
      false_from_ne_true (is_member nat_eq (chain_of t (parent_at t s)) s)
      (λ m. both_ways (is_lower f s s) (lower_self f s) (lower_from f s s (parent_chain_after s known s m)))

  -- from each set of a chain on, the chain is that of the set
  pub chain_suffix : (o : Option ℕ) → IsSetOrNone o → (u : ℕ) → is_member nat_eq (chain_of t o) u ≡ true → (front : List ℕ) × (chain_of t o ≡ front ++ chain_of t (Some u))
  unfolding chain_of
  chain_suffix o known u m = climb_suffix t.sets (is_lower f) t.parents upward t.sets o (λ s e. ((known s e).0, number_of s (known s e))) u m

  module _ (side : ℕ) (c : Cell) where
    -- of the sets of one side that hold a cell, the parent of each is the next
    way_of_cell : IsWayUp t.sets (is_lower f) t.parents upward (IsHolder f side c)
    way_of_cell = record {
      known = λ s h. (h.0.0, number_of s h.0);
      some = λ s p h e. (
        let parent = parent_is s p h.0 e in
            ((above_at_cell f lawful r.apart side c s h p).0 parent.above).0,
        λ u hu lower. elim ((parent_is s p h.0 e).least u ((above_at_cell f lawful r.apart side c s h u).1 (hu, lower_true f s u lower))) [
          | inl same ↦ inl same
          | inr after ↦ inr (lower_from f p u after)
        ],
      );
      none = λ s h e u hu. false_from_ne_true (is_lower f s u) (λ lower.
          elim (MatchOption-at_none (HasNoParent f s) (IsParent f s) e (r.parents s h.0)) [
            | inl empty ↦ (let some = holds_some (set_cells f s) c h.2 in absurd (omega (arith, empty, some)))
            | inr nothing ↦ nothing u ((above_at_cell f lawful r.apart side c s h u).1 (hu, lower_true f s u lower))
          ]);
    }

    -- from a set that holds the cell on, the chain meets each that holds it and comes after the set
    pub chain_meets : (s u : ℕ) → IsHolder f side c s → IsHolder f side c u → IsLower f s u → is_member nat_eq (chain_of t (Some s)) u ≡ true
    unfolding chain_of
    chain_meets s u hs hu after = climb_meets t.sets (is_lower f) t.parents upward (IsHolder f side c) way_of_cell s hs u hu (inr (lower_from f s u after))

    -- the next set that holds the cell is the parent
    pub next_holder : (s p : ℕ) → IsHolder f side c s → parent_at t s ≡ Some p → IsHolder f side c p
    next_holder s p h e = (way_of_cell.some s p h e).0

    module _ (known_side : (side ≡ 1) ⊎ (side ≡ 2)) (inside : IsCellWithin f.agents f.columns c) where
      -- the deepest set in the tables is a set of that side that holds the cell, and the first
      pub deepest_is : (s : ℕ) → deepest_at t side c ≡ Some s → IsDeepest f side c s
      deepest_is s e = MatchOption-at_some ((u : ℕ) → IsHolder f side c u → ⊥) (IsDeepest f side c) s e (r.deepest side c known_side inside)

      pub deepest_holds : (s : ℕ) → deepest_at t side c ≡ Some s → IsHolder f side c s
      deepest_holds s e = (let d = deepest_is s e in (d.known, d.sides, d.holds))

      pub deepest_known : IsSetOrNone (deepest_at t side c)
      deepest_known s e = (deepest_is s e).known

      first_of_cell : IsFirstOf t.sets (is_lower f) t.parents upward (IsHolder f side c) (deepest_at t side c)
      first_of_cell = record {
        some = λ s e. (
          deepest_holds s e,
          λ u h. elim ((deepest_is s e).least u h) [
            | inl same ↦ inl same
            | inr after ↦ inr (lower_from f s u after)
          ],
        );
        none = λ e. MatchOption-at_none ((u : ℕ) → IsHolder f side c u → ⊥) (IsDeepest f side c) e (r.deepest side c known_side inside);
      }

      -- the chain of a cell has exactly the sets of that side that hold it
      pub chain_holds : (u : ℕ) → is_member nat_eq (chain_of t (deepest_at t side c)) u ≡ true ↔ IsHolder f side c u
      unfolding chain_of
      chain_holds u = climb_has t.sets (is_lower f) t.parents upward (IsHolder f side c) way_of_cell (deepest_at t side c) first_of_cell u

      -- each of them once
      pub cell_chain_distinct : IsDistinct nat_eq (chain_of t (deepest_at t side c))
      cell_chain_distinct = chain_distinct (deepest_at t side c) deepest_known

      -- from each set of that side that holds the cell on, the chain of the cell is that of the set
      pub holder_suffix : (u : ℕ) → IsHolder f side c u → (front : List ℕ) × (chain_of t (deepest_at t side c) ≡ front ++ chain_of t (Some u))
      holder_suffix u h = chain_suffix (deepest_at t side c) deepest_known u ((chain_holds u).1 h)

  -- the chain of the parent of a set has exactly the sets above the set, and none where the set is empty
  pub parent_chain_above : (s : ℕ) → IsSet f s → (u : ℕ) → is_member nat_eq (chain_of t (parent_at t s)) u ≡ true ↔ ((0 < set_size f s) × IsAbove f s u)
  parent_chain_above s known u = (λ m. (filled (parent_at t s) refl m, above m), λ h. met h.0 h.1)
    where
      filled : (o : Option ℕ) → parent_at t s ≡ o → is_member nat_eq (chain_of t (parent_at t s)) u ≡ true → 0 < set_size f s
      filled (Some q) e m = (parent_is s q known e).filled
      filled None e m = absurd (both_ways (is_member nat_eq (chain_of t (parent_at t s)) u) (ap (λ o. is_member nat_eq (chain_of t o) u) e ∙ ap (λ xs. is_member nat_eq xs u) (chain_none t)) m)

      above : is_member nat_eq (chain_of t (parent_at t s)) u ≡ true → IsAbove f s u
      above m =
          let on = ap (λ xs. is_member nat_eq xs u) (chain_step s known) ∙ or_right (nat_eq u s) (is_member nat_eq (chain_of t (parent_at t s)) u) m in
          let (is_set, sides, contains) = chain_rises s known u on in
          lower_above f lawful s u known is_set (sym sides) contains (parent_chain_after s known u m)

      met : 0 < set_size f s → IsAbove f s u → is_member nat_eq (chain_of t (parent_at t s)) u ≡ true
      met some over =
          let c = some_held (set_cells f s) some in
          let hs : IsHolder f (set_side f s) c.0 s = (known, refl, c.1) in
          let hu = ((above_at_cell f lawful r.apart (set_side f s) c.0 s hs u).0 over) in
          let on = chain_meets (set_side f s) c.0 s u hs hu.0 hu.1 in
          elim (or_cases (nat_eq u s) (is_member nat_eq (chain_of t (parent_at t s)) u) (sym (ap (λ xs. is_member nat_eq xs u) (chain_step s known)) ∙ on)) [
            | inl same ↦ absurd (both_ways (is_lower f s s) (lower_self f s) (lower_from f s s (subst (IsLower f s) (eqb-true u s same) hu.1)))
            | inr later ↦ later
          ]
