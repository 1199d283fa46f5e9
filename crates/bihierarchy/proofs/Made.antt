-- What the tables of a family are as trees.
use Rattle.std.proofs.Common.{◌≡◌, ℕ, ◌+◌, ◌-◌, List, Option, None, Some, length, get_or, subst, arith}
use Rattle.std.specs.Prelude.{MatchOption}
use Rattle.std.proofs.lemmas.List.Elements.{All-from_get_or}
use Rattle.definitions.specs.Sets.{FamilyValue}
use Rattle.definitions.specs.Hierarchies.{HasNoParent, IsParent}
use Rattle.definitions.specs.Trees.{IsTrees, IsEntry}
use Rattle.bihierarchy.specs.Tables.{trees_from, AreParents, AreDeepest}

-- a parent is a set
known_parent : (f : FamilyValue) (s : ℕ) (o : Option ℕ) → MatchOption o (HasNoParent f s) (IsParent f s) → IsEntry (length f.sets) o
known_parent f s None h = tt
known_parent f s (Some p) h = h.above.known

-- the tables of a family are trees
pub trees_made : (f : FamilyValue) (parents one two : List (Option ℕ)) (n : ℕ) → AreParents f parents → AreDeepest f 1 n one → AreDeepest f 2 n two
    → IsTrees (trees_from (length f.sets) f.agents f.columns parents one two)
trees_made f parents one two n p a b = record {
  parents_many = p.many;
  ones_many = a.many;
  twos_many = b.many;
  parents = All-from_get_or (IsEntry (length f.sets)) parents None (λ k l.
      let many = p.many in
      let place : (k + 1) - 1 ≡ k = omega arith in
      known_parent f (k + 1) (get_or parents k None) (subst (λ (i : ℕ). MatchOption (get_or parents i None) (HasNoParent f (k + 1)) (IsParent f (k + 1))) place (p.right (k + 1) (omega arith, omega (arith, many, l)))));
  ones = a.entries;
  twos = b.entries;
}
