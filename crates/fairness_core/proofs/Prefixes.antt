-- Sums over the first places of a list: the next place, and that they fit.
use Rattle.std.proofs.Common.{◌≡◌, ℕ, ◌+◌, ◌<◌, ◌≤◌, ◌^◌, ◌∙◌, List, Bool, true, false, cond, map, length, get_or, refl, sym, ap, arith}
use Rattle.std.specs.Prelude.{sum, sum_by, nat_eq}
use Rattle.std.specs.List.{AllByRecursion, IsDistinct}
use Rattle.std.proofs.lemmas.List.Elements.{recursion_from_All}
use Rattle.std.proofs.lemmas.List.Sums.{sum_by_more, sum_by-take-le}
use Rattle.definitions.specs.declared.Cell.{Cell}
use Rattle.definitions.specs.Sets.{cell_of, same_cell, holds, all_cells, prefix_sum, units_of, ScaledValue, IsScaledMatrix, IsCellWithin}
use Rattle.definitions.specs.Values.{ProblemValue, IsProblem, column_count, list_at}
use Rattle.definitions.proofs.Members.{cell_test}
use Rattle.definitions.proofs.Sums.{sum_same_all, sum_le_all, sum_mapped, restrict, sum_of_units}
use Rattle.definitions.proofs.Cells.{row_distinct, cells_distinct, within_is_member, all_within}
use Rattle.definitions.proofs.Problems.{list_lawful}

twice : (b : Bool) (n : ℕ) → cond b (cond b n 0) 0 ≡ cond b n 0
twice true n = refl
twice false n = refl

part : (b c : Bool) (n : ℕ) → cond b (cond c n 0) 0 ≤ n
part true true n = omega arith
part true false n = omega arith
part false c n = omega arith

-- the units of distinct columns in a row are at most all units
row_within : (x : ScaledValue) (j : ℕ) (columns : List ℕ) → IsScaledMatrix x → j < x.agents → IsDistinct nat_eq columns → AllByRecursion (λ a. a < x.columns) columns
    → sum_by (λ a. units_of x (cell_of j a)) columns ≤ sum x.units
row_within x j columns m l d inside =
    let u : Cell → ℕ = units_of x in
    let all : List Cell = all_cells x.agents x.columns in
    let kept : Cell → ℕ = λ c. cond (holds (all_cells x.agents x.columns) c) (units_of x c) 0 in
    let one : sum_by (λ a. u (cell_of j a)) columns ≡ sum_by (λ a. kept (cell_of j a)) columns =
    sum_same_all (λ a. a < x.columns) (λ a. u (cell_of j a)) (λ a. kept (cell_of j a)) columns
    (λ a k. sym (ap (λ b. cond b (units_of x (cell_of j a)) 0) (within_is_member x.agents x.columns (cell_of j a) (l, k)))) inside in
    let two : sum_by kept (map (cell_of j) columns) ≡ sum_by (λ a. kept (cell_of j a)) columns = sum_mapped kept (cell_of j) columns in
    let three : sum_by kept (map (cell_of j) columns) ≡ sum_by (λ c. cond (holds (map (cell_of j) columns) c) (kept c) 0) all =
    restrict same_cell cell_test kept (map (cell_of j) columns) all (row_distinct j columns d) (cells_distinct x.agents x.columns)
    (λ c. twice (holds (all_cells x.agents x.columns) c) (units_of x c)) in
    let four : sum_by (λ c. cond (holds (map (cell_of j) columns) c) (kept c) 0) all ≤ sum_by u all =
    sum_le_all (IsCellWithin x.agents x.columns) (λ c. cond (holds (map (cell_of j) columns) c) (kept c) 0) u all
    (λ c k. part (holds (map (cell_of j) columns) c) (holds (all_cells x.agents x.columns) c) (units_of x c)) (all_within x.agents x.columns) in
    let five : sum_by u all ≡ sum x.units = sum_of_units x.agents x.columns x.units m.shape in
    omega (arith, one, two, three, four, five)

-- a column of a list is one of the matrix
pub listed_column : (p : ProblemValue) (i k : ℕ) (list : List ℕ) → IsProblem p → i < length p.agents → list ≡ list_at p i → k < length list → get_or list k 0 < column_count p
listed_column p i k list h l e w =
    let same : get_or list k 0 ≡ get_or (list_at p i) k 0 = ap (λ (ns : List ℕ). get_or ns k 0) e in
    let many : length list ≡ length (list_at p i) = ap length e in
    let le = (list_lawful p i h l).known k 0 (omega (arith, many, w)) in
    omega (arith, same, le)

module _ (p : ProblemValue) (x : ScaledValue) (i j k : ℕ) (list : List ℕ) (sum_so_far unit : ℕ) (e : list ≡ list_at p i) (w : k < length list) (of : unit ≡ units_of x (cell_of j (get_or list k 0)))
    (so : sum_so_far ≡ prefix_sum (units_of x) j (list_at p i) k) where
  -- one place more
  pub prefix_step : sum_so_far + unit ≡ prefix_sum (units_of x) j (list_at p i) (k + 1)
  prefix_step =
      let many : length list ≡ length (list_at p i) = ap length e in
      let here : unit ≡ units_of x (cell_of j (get_or (list_at p i) k 0)) = of ∙ ap (λ (ns : List ℕ). units_of x (cell_of j (get_or ns k 0))) e in
      let more = sum_by_more (λ (a : ℕ). units_of x (cell_of j a)) (list_at p i) k 0 (omega (arith, many, w)) in
      omega (arith, so, here, more)

  -- and the sum fits
  pub prefix_fits : IsProblem p → IsScaledMatrix x → x.columns ≡ column_count p → i < length p.agents → j < x.agents → sum_so_far + unit < 2 ^ 128
  prefix_fits h m c l n =
      let lawful = list_lawful p i h l in
      let inside : AllByRecursion (λ a. a < x.columns) (list_at p i) =
      recursion_from_All (λ a. a < x.columns) (list_at p i) (λ q d o. (let le = lawful.known q d o in omega (arith, le, c))) in
      let whole = row_within x j (list_at p i) m n lawful.apart inside in
      let front = sum_by-take-le (λ (a : ℕ). units_of x (cell_of j a)) (list_at p i) (k + 1) in
      omega (arith, whole, front, prefix_step, m.total, m.limit)
