-- The sides of the guarded family, set by set.
use Rattle.std.proofs.Common.{◌≡◌, ℕ, suc, zero, ◌+◌, ◌-◌, ◌<◌, ◌⊎◌, List, [], ◌∷◌, ◌++◌, length, drop, get_or, ap, sym, ◌∙◌, arith, true, Some, inl, inr}
use Rattle.std.specs.Prelude.{slice_get, slice_index, unwrap_or, option_map}
use Rattle.std.specs.List.{AllByRecursion, range_with_len}
use Rattle.std.proofs.lemmas.Option.{slice_get-map, slice_get_within, slice_get-get_or, get_or_from_slice_get}
use Rattle.std.proofs.lemmas.List.{take-append-drop, append_assoc}
use Rattle.std.proofs.lemmas.List.Elements.{recursion_from_All}
use Rattle.definitions.specs.Sets.{crosses, SetValue, FamilyValue, ScaledValue, cells_of, sides_of, cells_at, set_side, IsSet, NoCrossing, IsHierarchy, IsBihierarchy}
use Rattle.definitions.specs.Values.{ProblemValue, IsProblem, IsStatedSet, column_count, stated_sets, row_sets}
use Rattle.definitions.specs.Fairness.{guarded_family}
use Rattle.definitions.proofs.Families.{set_of_number, bihierarchy_of_apart}
use Rattle.definitions.proofs.Lists.{each_at}
use Rattle.certificate_laws.proofs.PrefixSets.{added_sets}
use Rattle.certificate_laws.proofs.GuardedFamily.{IsRowSet, fronts_apart, each_append, rows_are, added_are}

-- a set by its number
cells_by_number : (f : FamilyValue) (k : ℕ) (q : SetValue) → slice_get f.sets k ≡ Some q → cells_at (cells_of f) (k + 1) ≡ q.cells
cells_by_number f k q e =
    let index : k + 1 - 1 ≡ k = omega arith in
    ap (λ j. unwrap_or (slice_get (cells_of f) j) []) index ∙ ap (λ o. unwrap_or o []) (slice_get-map (λ (s : SetValue). s.cells) f.sets k ∙ ap (option_map (λ (s : SetValue). s.cells)) e)

side_by_number : (f : FamilyValue) (k : ℕ) (q : SetValue) → slice_get f.sets k ≡ Some q → set_side f (k + 1) ≡ q.side
side_by_number f k q e =
    let index : k + 1 - 1 ≡ k = omega arith in
    ap (λ j. slice_index (sides_of f) j) index ∙ get_or_from_slice_get (sides_of f) k q.side 0 (slice_get-map (λ (s : SetValue). s.side) f.sets k ∙ ap (option_map (λ (s : SetValue). s.side)) e)

-- no two sets of one side cross, set by set
apart_by_sets : (f : FamilyValue)
    → ((j k : ℕ) (q r : SetValue) → slice_get f.sets j ≡ Some q → slice_get f.sets k ≡ Some r → q.side ≡ r.side → crosses q.cells r.cells ≡ true → ⊥) → NoCrossing (cells_of f) (sides_of f)
apart_by_sets f h s t known knows same cross =
    let is = set_of_number f s known in
    let are = set_of_number f t knows in
    let none : SetValue = record { side = 0; floor = 0; ceiling = 0; cells = [] } in
    let first : s - 1 + 1 ≡ s = omega arith in
    let second : t - 1 + 1 ≡ t = omega arith in
    let q : SetValue = get_or f.sets (s - 1) none in
    let r : SetValue = get_or f.sets (t - 1) none in
    let e : slice_get f.sets (s - 1) ≡ Some q = slice_get-get_or f.sets (s - 1) none (omega arith) in
    let g : slice_get f.sets (t - 1) ≡ Some r = slice_get-get_or f.sets (t - 1) none (omega arith) in
    let c : cells_at (cells_of f) s ≡ q.cells = ap (cells_at (cells_of f)) (sym first) ∙ cells_by_number f (s - 1) q e in
    let d : cells_at (cells_of f) t ≡ r.cells = ap (cells_at (cells_of f)) (sym second) ∙ cells_by_number f (t - 1) r g in
    let a : set_side f s ≡ q.side = ap (set_side f) (sym first) ∙ side_by_number f (s - 1) q e in
    let b : set_side f t ≡ r.side = ap (set_side f) (sym second) ∙ side_by_number f (t - 1) r g in
    h (s - 1) (t - 1) q r e g (sym a ∙ same ∙ b) (ap (λ cells. crosses cells r.cells) (sym c) ∙ ap (crosses (cells_at (cells_of f) s)) (sym d) ∙ cross)

-- two sets of a hierarchy don't cross
hierarchy_at : (f : FamilyValue) (side j k : ℕ) (q r : SetValue) → IsHierarchy f side → slice_get f.sets j ≡ Some q → slice_get f.sets k ≡ Some r
    → q.side ≡ side → r.side ≡ side → crosses q.cells r.cells ≡ true → ⊥
hierarchy_at f side j k q r h e g a b cross =
    let l : j < length f.sets = slice_get_within f.sets j q e in
    let m : k < length f.sets = slice_get_within f.sets k r g in
    let known : IsSet f (j + 1) = omega arith in
    let knows : IsSet f (k + 1) = omega arith in
    h (j + 1) (k + 1) known knows (side_by_number f j q e ∙ a) (side_by_number f k r g ∙ b)
    (ap (λ cells. crosses cells (cells_at (cells_of f) (k + 1))) (cells_by_number f j q e) ∙ ap (crosses q.cells) (cells_by_number f k r g) ∙ cross)

-- an element of two lists joined is one of either, at the same index of the first
joined_at : {X : Type 0} (xs ys : List X) (k : ℕ) (x : X) → slice_get (xs ++ ys) k ≡ Some x → (slice_get xs k ≡ Some x) ⊎ ((j : ℕ) × (slice_get ys j ≡ Some x))
joined_at [] ys k x e = inr (k, e)
joined_at (z ∷ xs) ys zero x e = inl e
joined_at (z ∷ xs) ys (suc k) x e = joined_at xs ys k x e

front_at : {X : Type 0} (xs ys : List X) (k : ℕ) (x : X) → slice_get xs k ≡ Some x → slice_get (xs ++ ys) k ≡ Some x
front_at [] ys k x e = absurd (cc)
front_at (z ∷ xs) ys zero x e = e
front_at (z ∷ xs) ys (suc k) x e = front_at xs ys k x e

-- the stated sets, then rows and first places
guarded_sets : (p : ProblemValue) (x : ScaledValue) → IsProblem p → (guarded_family p x).sets ≡ stated_sets p ++ (row_sets (column_count p) p.demands ++ added_sets p x)
guarded_sets p x h =
    ap (λ sets. sets ++ added_sets p x) (sym (take-append-drop p.stated p.family.sets) ∙ ap (λ rows. stated_sets p ++ rows) h.rows)
    ∙ append_assoc (stated_sets p) (row_sets (column_count p) p.demands) (added_sets p x)

side_two : (p : ProblemValue) (k : ℕ) (q : SetValue) → IsProblem p → slice_get (stated_sets p) k ≡ Some q → q.side ≡ 2
side_two p k q h e = (each_at (IsStatedSet (length p.objects)) (stated_sets p) k q (recursion_from_All (IsStatedSet (length p.objects)) (stated_sets p) h.stated_lawful) e).side

in_family : (p : ProblemValue) (k : ℕ) (q : SetValue) → slice_get (stated_sets p) k ≡ Some q → slice_get p.family.sets k ≡ Some q
in_family p k q e = ap (λ sets. slice_get sets k) (sym (take-append-drop p.stated p.family.sets)) ∙ front_at (stated_sets p) (drop p.stated p.family.sets) k q e

-- where no two stated sets cross, the guarded family is a bihierarchy
pub guarded_apart : (p : ProblemValue) (x : ScaledValue) → IsProblem p → IsHierarchy p.family 2 → IsBihierarchy (guarded_family p x)
guarded_apart p x h two = bihierarchy_of_apart (guarded_family p x) (apart_by_sets (guarded_family p x) apart)
  where
    others : AllByRecursion (IsRowSet p) (row_sets (column_count p) p.demands ++ added_sets p x)
    others = each_append (IsRowSet p) (row_sets (column_count p) p.demands) (added_sets p x) (rows_are p 0 p.demands) (added_are p x (range_with_len 0 (length p.lists)))

    other_at : (k : ℕ) (q : SetValue) → slice_get (row_sets (column_count p) p.demands ++ added_sets p x) k ≡ Some q → IsRowSet p q
    other_at k q e = each_at (IsRowSet p) (row_sets (column_count p) p.demands ++ added_sets p x) k q others e

    two_kinds : (q r : SetValue) → q.side ≡ 2 → r.side ≡ 1 → q.side ≡ r.side → ⊥
    two_kinds q r a b e = omega (arith, a, b, e)

    cases : (j k : ℕ) (q r : SetValue) → (slice_get (stated_sets p) j ≡ Some q) ⊎ ((n : ℕ) × (slice_get (row_sets (column_count p) p.demands ++ added_sets p x) n ≡ Some q))
        → (slice_get (stated_sets p) k ≡ Some r) ⊎ ((n : ℕ) × (slice_get (row_sets (column_count p) p.demands ++ added_sets p x) n ≡ Some r))
        → q.side ≡ r.side → crosses q.cells r.cells ≡ true → ⊥
    cases j k q r (inl e) (inl g) same cross = hierarchy_at p.family 2 j k q r two (in_family p j q e) (in_family p k r g) (side_two p j q h e) (side_two p k r h g) cross
    cases j k q r (inl e) (inr (n, g)) same cross = two_kinds q r (side_two p j q h e) (other_at n r g).0 same
    cases j k q r (inr (m, e)) (inl g) same cross = two_kinds r q (side_two p k r h g) (other_at m q e).0 (sym same)
    cases j k q r (inr (m, e)) (inr (n, g)) same cross = fronts_apart p q.cells r.cells (other_at m q e).1 (other_at n r g).1 cross

    apart : (j k : ℕ) (q r : SetValue) → slice_get (guarded_family p x).sets j ≡ Some q → slice_get (guarded_family p x).sets k ≡ Some r → q.side ≡ r.side → crosses q.cells r.cells ≡ true → ⊥
    apart j k q r e g =
        cases j k q r (joined_at (stated_sets p) (row_sets (column_count p) p.demands ++ added_sets p x) j q (sym (ap (λ sets. slice_get sets j) (guarded_sets p x h)) ∙ e))
        (joined_at (stated_sets p) (row_sets (column_count p) p.demands ++ added_sets p x) k r (sym (ap (λ sets. slice_get sets k) (guarded_sets p x h)) ∙ g))
