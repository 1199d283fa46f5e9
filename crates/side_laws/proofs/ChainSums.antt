-- Sums and least numbers over the sets of a side that hold a cell, along the chain of the cell.
use Rattle.std.proofs.Common.{◌≡◌, ℕ, ◌-◌, ◌⊎◌, ◌∙◌, [], length, get_or, true, cond, sym, ap, subst, arith}
use Rattle.std.specs.Prelude.{nat_eq, ◌==◌, sum_by}
use Rattle.std.specs.List.{range_with_len}
use Rattle.std.specs.Set.{is_member}
use Rattle.std.proofs.lemmas.Bool.{and_parts, and_from, eqb-true, eq-eqb}
use Rattle.definitions.specs.declared.Cell.{Cell}
use Rattle.definitions.specs.Sets.{SetValue, FamilyValue, IsFamily, same_cell, holds, IsSet, IsCellWithin, set_cells, set_side, set_sum, all_cells}
use Rattle.definitions.specs.Hierarchies.{IsHolder}
use Rattle.definitions.specs.Trees.{TreesValue, AreTreesOf, deepest_at, chain_of}
use Rattle.definitions.proofs.Members.{number_test, cell_test, member_place, member_of_filter, distinct_filter}
use Rattle.definitions.proofs.Sums.{sum_same_all}
use Rattle.definitions.proofs.Ranges.{member_of_range, range_of_member, distinct_range}
use Rattle.definitions.proofs.Cells.{within_is_member, all_within, cells_distinct}
use Rattle.definitions.proofs.Families.{cells_of_set}
use Rattle.side_laws.specs.Sums.{is_holder, holders, least_over, AlongChain}
use Rattle.side_laws.proofs.Members.{same_tests, sum_within, sum_of_members, sum_of_filter, least_of_members}
use Rattle.side_laws.proofs.Order.{set_distinct}
use Rattle.side_laws.proofs.Trees.{chain_holds, cell_chain_distinct}

-- the holders by number are the holders
pub member_holds : (f : FamilyValue) (side : ℕ) (c : Cell) (s : ℕ) → is_member nat_eq (holders f side c) s ≡ true → IsHolder f side c s
member_holds f side c s m =
    let range = range_with_len 1 (length f.sets) in
    let parts = and_parts (is_member nat_eq range s) (is_holder f side c s) (sym (member_of_filter nat_eq number_test (is_holder f side c) range s) ∙ m) in
    let inside = range_of_member 1 (length f.sets) s parts.0 in
    let tests = and_parts (set_side f s == side) (holds (set_cells f s) c) parts.1 in
    ((omega (arith, inside.0), omega (arith, inside.1)), eqb-true (set_side f s) side tests.0, tests.1)

pub holds_member : (f : FamilyValue) (side : ℕ) (c : Cell) (s : ℕ) → IsHolder f side c s → is_member nat_eq (holders f side c) s ≡ true
holds_member f side c s h =
    let range = range_with_len 1 (length f.sets) in
    member_of_filter nat_eq number_test (is_holder f side c) range s
    ∙ and_from (is_member nat_eq range s) (is_holder f side c s)
    (let low = h.0.0 in let high = h.0.1 in member_of_range 1 (length f.sets) s (omega arith) (omega arith))
    (and_from (set_side f s == side) (holds (set_cells f s) c) (eq-eqb (set_side f s) side h.1) h.2)

-- each cell of a set of a lawful family is within the family's agents and columns
pub held_within : (f : FamilyValue) → IsFamily f → (s : ℕ) → IsSet f s → (c : Cell) → holds (set_cells f s) c ≡ true → IsCellWithin f.agents f.columns c
held_within f family s known c m =
    let d : SetValue = record { side = 1; floor = 0; ceiling = 0; cells = [] } in
    let (i, l, e) = member_place same_cell cell_test c (get_or f.sets (s - 1) d).cells (subst (λ cells. holds cells c ≡ true) (cells_of_set f s known d) m) in
    subst (IsCellWithin f.agents f.columns) (e c) (family.inside (s - 1) d (let low = known.0 in let high = known.1 in omega arith) i c l)

module _ (f : FamilyValue) (family : IsFamily f) (t : TreesValue) (r : AreTreesOf f t) (side : ℕ) (known_side : (side ≡ 1) ⊎ (side ≡ 2)) where
  module _ (c : Cell) (inside : IsCellWithin f.agents f.columns c) where
    chain_to_holders : (u : ℕ) → is_member nat_eq (chain_of t (deepest_at t side c)) u ≡ true → is_member nat_eq (holders f side c) u ≡ true
    chain_to_holders u m = holds_member f side c u ((chain_holds f family.lawful t r side c known_side inside u).0 m)

    holders_to_chain : (u : ℕ) → is_member nat_eq (holders f side c) u ≡ true → is_member nat_eq (chain_of t (deepest_at t side c)) u ≡ true
    holders_to_chain u m = (chain_holds f family.lawful t r side c known_side inside u).1 (member_holds f side c u m)

    -- the sum over the holders of a cell is that along its chain
    pub chain_sum : (w : ℕ → ℕ) → sum_by w (chain_of t (deepest_at t side c)) ≡ sum_by w (holders f side c)
    chain_sum w =
        sum_of_members nat_eq number_test w (chain_of t (deepest_at t side c)) (holders f side c) (cell_chain_distinct f family.lawful t r side c known_side inside)
        (distinct_filter nat_eq number_test (is_holder f side c) (range_with_len 1 (length f.sets)) (distinct_range 1 (length f.sets))) chain_to_holders holders_to_chain

    -- the same as a sum over all sets
    pub chain_sum_by_test : (w : ℕ → ℕ) → sum_by w (chain_of t (deepest_at t side c)) ≡ sum_by (λ s. cond (is_holder f side c s) (w s) 0) (range_with_len 1 (length f.sets))
    chain_sum_by_test w = chain_sum w ∙ sum_of_filter w (is_holder f side c) (range_with_len 1 (length f.sets))

    -- the least over the holders of a cell is that along its chain
    pub chain_least : (most : ℕ) (v : ℕ → ℕ) → least_over most v (chain_of t (deepest_at t side c)) ≡ least_over most v (holders f side c)
    chain_least most v = least_of_members v most (chain_of t (deepest_at t side c)) (holders f side c) chain_to_holders holders_to_chain

    pub along_chain : AlongChain f t side c
    along_chain = record { sums = chain_sum; least = chain_least }

    -- a set of the side holds the cell exactly where the cell's chain passes it
    pub passes : (s : ℕ) → IsSet f s → set_side f s ≡ side → holds (set_cells f s) c ≡ is_member nat_eq (chain_of t (deepest_at t side c)) s
    passes s known at_side =
        same_tests (holds (set_cells f s) c) (is_member nat_eq (chain_of t (deepest_at t side c)) s)
        (λ h. (chain_holds f family.lawful t r side c known_side inside s).1 (known, at_side, h))
        (λ m. ((chain_holds f family.lawful t r side c known_side inside s).0 m).2)

  -- the sum over a set is the sum over the cells whose chain passes the set
  pub set_sum_by_chains : (s : ℕ) (x : Cell → ℕ) → IsSet f s → set_side f s ≡ side
      → set_sum x (set_cells f s) ≡ sum_by (λ c. cond (is_member nat_eq (chain_of t (deepest_at t side c)) s) (x c) 0) (all_cells f.agents f.columns)
  set_sum_by_chains s x known at_side =
      sum_within same_cell cell_test x (set_cells f s) (all_cells f.agents f.columns) (set_distinct f family.lawful s known) (cells_distinct f.agents f.columns)
      (λ c m. within_is_member f.agents f.columns c (held_within f family s known c m))
      ∙ sum_same_all (IsCellWithin f.agents f.columns) (λ c. cond (holds (set_cells f s) c) (x c) 0)
      (λ c. cond (is_member nat_eq (chain_of t (deepest_at t side c)) s) (x c) 0) (all_cells f.agents f.columns)
      (λ c inside. ap (λ b. cond b (x c) 0) (passes c inside s known at_side)) (all_within f.agents f.columns)
