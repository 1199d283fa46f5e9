-- What a random assignment keeps at stated sets and at capped cells, and the column of `none`.
use Rattle.std.proofs.Common.{◌≡◌, ℕ, ◌*◌, ◌<◌, ◌≤◌, List, [], ◌∷◌, length, refl, ap, arith, true, false, cond, ◌&&◌, Some, All}
use Rattle.std.specs.Prelude.{sum_by, slice_get, nat_eq, nat_le, nat_lt, ◌==◌}
use Rattle.std.specs.List.{AllByRecursion, zip, IsDistinct}
use Rattle.std.specs.Set.{is_member}
use Rattle.std.proofs.lemmas.Bool.{and_left, and_right, le-ltb}
use Rattle.std.proofs.lemmas.List.Elements.{recursion_from_All, All-take}
use Rattle.std.proofs.lemmas.List.Sums.{sum_by-cons}
use Rattle.definitions.specs.declared.Cell.{Cell}
use Rattle.definitions.specs.Sets.{cell_of, same_cell, holds, set_sum, SetValue, IsQuotaSet}
use Rattle.definitions.specs.Values.{Limit, ProblemValue, IsProblem, IsStatedSet, limits_of, stated_sets, list_at, demand_at, is_capped}
use Rattle.definitions.specs.Certificate.{is_left_out}
use Rattle.definitions.proofs.Members.{rising_distinct}
use Rattle.definitions.proofs.Lists.{each_at}
use Rattle.definitions.proofs.Problems.{none_held}
use Rattle.definitions.proofs.Capped.{each_stated, own_limit}
use Rattle.definitions.specs.Laws.{limit_of_cell}
use Rattle.certificate_laws.proofs.Prices.{price_in}

-- x over d is within the ceiling of a limit
abbrev pub IsKept : (Cell → ℕ) → ℕ → Limit → Type 0
IsKept x d s = set_sum x s.cells ≤ s.ceiling * d

-- a stated set holds no more than its ceiling
pub stated_kept : (p : ProblemValue) (x : Cell → ℕ) (d k : ℕ) (q : SetValue) → All (IsKept x d) (limits_of p) → slice_get (stated_sets p) k ≡ Some q → set_sum x q.cells ≤ q.ceiling * d
stated_kept p x d k q h e =
    each_at (λ (s : SetValue). set_sum x s.cells ≤ s.ceiling * d) (stated_sets p) k q
    (recursion_from_All (λ (s : SetValue). set_sum x s.cells ≤ s.ceiling * d) (stated_sets p) (each_stated (IsKept x d) p h)) e

-- no stated set holds a cell twice
pub stated_distinct : (p : ProblemValue) (k : ℕ) (q : SetValue) → IsProblem p → slice_get (stated_sets p) k ≡ Some q → IsDistinct same_cell q.cells
stated_distinct p k q h e =
    rising_distinct q.cells (each_at IsQuotaSet (stated_sets p) k q (recursion_from_All IsQuotaSet (stated_sets p) (All-take IsQuotaSet p.stated p.family.sets h.family.lawful)) e).rise

-- a capped cell has at most one unit
pub capped_kept : (p : ProblemValue) (x : Cell → ℕ) (d : ℕ) (c : Cell) → IsProblem p → All (IsKept x d) (limits_of p) → is_capped p c ≡ true → x c ≤ d
capped_kept p x d c h kept capped =
    let (j, _, at) = own_limit p h c capped in
    let bound : sum_by x (c ∷ []) ≤ 1 * d = each_at (IsKept x d) (limits_of p) j (limit_of_cell c) (recursion_from_All (IsKept x d) (limits_of p) kept) at in
    omega (arith, bound, sum_by-cons x c [])

unpriced : (sets : List SetValue) (price : List ℕ) (c : Cell) → AllByRecursion (λ s. holds s.cells c ≡ false) sets → price_in (zip sets price) c ≡ 0
unpriced [] price c h = refl
unpriced (s ∷ sets) [] c h = refl
unpriced (s ∷ sets) (n ∷ price) c h =
    let here : cond (holds s.cells c) n 0 ≡ 0 = ap (λ b. cond b n 0) h.0 in
    omega (arith, sum_by-cons (λ (t : SetValue × ℕ). cond (holds t.0.cells c) t.1 0) (s, n) (zip sets price), here, unpriced sets price c h.1)

-- the cells of `none` have price 0
pub none_unpriced : (p : ProblemValue) (price : List ℕ) (i : ℕ) → IsProblem p → price_in (zip (stated_sets p) price) (cell_of i (length p.objects)) ≡ 0
none_unpriced p price i h =
    unpriced (stated_sets p) price (cell_of i (length p.objects)) (each (stated_sets p) (recursion_from_All (IsStatedSet (length p.objects)) (stated_sets p) h.stated_lawful))
  where
    each : (sets : List SetValue) → AllByRecursion (IsStatedSet (length p.objects)) sets → AllByRecursion (λ s. holds s.cells (cell_of i (length p.objects)) ≡ false) sets
    each [] a = tt
    each (s ∷ sets) a = (none_held i (length p.objects) s.cells (recursion_from_All (λ (c : Cell). c.object < length p.objects) s.cells a.0.objects), each sets a.1)

-- and are never left out
pub none_kept : (p : ProblemValue) (d : ℕ) (x : Cell → ℕ) (i : ℕ) → is_left_out p d x (cell_of i (length p.objects)) ≡ false
none_kept p d x i =
    let none = length p.objects in
    and_left (is_capped p (cell_of i none)) (x (cell_of i none) == d)
    (and_right (nat_le 2 (demand_at p i)) (is_member nat_eq (list_at p i) none && nat_lt none none) (and_right (is_member nat_eq (list_at p i) none) (nat_lt none none) (le-ltb none none (omega arith))))
