-- A random assignment of a lawful problem is feasible for the problem's family.
use Rattle.std.proofs.Common.{◌≡◌, ℕ, suc, ◌+◌, ◌*◌, ◌<◌, ◌≤◌, List, [], ◌∷◌, ◌++◌, length, take, drop, get_or, ap, sym, subst, arith}
use Rattle.std.specs.Prelude.{All, slice_index}
use Rattle.std.specs.List.{AllByRecursion, enumerate_from}
use Rattle.std.proofs.lemmas.List.{take-append-drop}
use Rattle.std.proofs.lemmas.List.Elements.{All-append, All-map, All-same, All-from_recursion}
use Rattle.definitions.specs.Sets.{set_sum, row_cells, SetValue, ScaledValue, units_of, IsSetFeasible, IsFeasible}
use Rattle.definitions.specs.Values.{ProblemValue, IsProblem, IsStatedSet, stated_sets, row_sets, column_count}
use Rattle.definitions.specs.Assignment.{IsRandomAssignment}
use Rattle.definitions.proofs.Capped.{each_stated}

rows_each : (P : ℕ × ℕ → Type 0) (s : ℕ) (demands : List ℕ) → ((k : ℕ) → k < length demands → P (s + k, slice_index demands k)) → AllByRecursion P (enumerate_from s demands)
rows_each P s [] h = tt
rows_each P s (d ∷ demands) h = (
  subst (λ n. P (n, d)) (let here : s + 0 ≡ s = omega arith in here) (h 0 (omega arith)),
  rows_each P (s + 1) demands (λ k l. subst (λ n. P (n, slice_index demands k)) (let there : s + suc k ≡ s + 1 + k = omega arith in there) (h (suc k) (omega arith))),
)

-- a random assignment lies within floor and ceiling at each set of the family
pub random_feasible : (p : ProblemValue) (x : ScaledValue) → IsProblem p → IsRandomAssignment p x.denominator (units_of x) → IsFeasible p.family x
random_feasible p x h a =
    All-same (IsSetFeasible x) p.family.sets (take p.stated p.family.sets ++ drop p.stated p.family.sets) (sym (take-append-drop p.stated p.family.sets))
    (All-append (IsSetFeasible x) (take p.stated p.family.sets) (drop p.stated p.family.sets) stated
    (All-same (IsSetFeasible x) (drop p.stated p.family.sets) (row_sets (column_count p) p.demands) h.rows rows))
  where
    stated : All (IsSetFeasible x) (stated_sets p)
    stated k d l =
        let s : SetValue = get_or (stated_sets p) k d in
        let lawful : IsStatedSet (length p.objects) s = h.stated_lawful k d l in
        let bound : set_sum (units_of x) s.cells ≤ s.ceiling * x.denominator = each_stated (λ q. set_sum (units_of x) q.cells ≤ q.ceiling * x.denominator) p a.kept k d l in
        (let none : s.floor * x.denominator ≡ 0 * x.denominator = ap (λ n. n * x.denominator) lawful.floor in omega (arith, none), bound)

    rows : All (IsSetFeasible x) (row_sets (column_count p) p.demands)
    rows =
        All-map (IsSetFeasible x) (λ (w : ℕ × ℕ). record { side = 1; floor = w.1; ceiling = w.1; cells = row_cells (column_count p) w.0 }) (enumerate_from 0 p.demands)
        (All-from_recursion (λ (w : ℕ × ℕ). (w.1 * x.denominator ≤ set_sum (units_of x) (row_cells (column_count p) w.0)) × (set_sum (units_of x) (row_cells (column_count p) w.0) ≤ w.1 * x.denominator)) (enumerate_from 0 p.demands)
        (rows_each (λ (w : ℕ × ℕ). (w.1 * x.denominator ≤ set_sum (units_of x) (row_cells (column_count p) w.0)) × (set_sum (units_of x) (row_cells (column_count p) w.0) ≤ w.1 * x.denominator)) 0 p.demands
        (λ k l. both k l)))
      where
        both : (k : ℕ) → k < length p.demands
            → (slice_index p.demands k * x.denominator ≤ set_sum (units_of x) (row_cells (column_count p) (0 + k))) × (set_sum (units_of x) (row_cells (column_count p) (0 + k)) ≤ slice_index p.demands k * x.denominator)
        both k l =
            let plain : k ≡ 0 + k = omega arith in
            let row = a.rows k (omega (arith, l, h.demands_many)) in
            subst (λ n. (slice_index p.demands k * x.denominator ≤ set_sum (units_of x) (row_cells (column_count p) n)) × (set_sum (units_of x) (row_cells (column_count p) n) ≤ slice_index p.demands k * x.denominator)) plain
            (omega (arith, row), omega (arith, row))
