-- The units in cells that are apart are at most all units.
use Rattle.std.proofs.Common.{◌≡◌, ℕ, ◌+◌, ◌*◌, ◌<◌, ◌≤◌, ◌^◌, List, Bool, true, false, cond, length, get_or, take, refl, sym, ap, arith, All}
use Rattle.std.specs.Prelude.{sum, sum_by}
use Rattle.std.specs.List.{AllByRecursion}
use Rattle.std.proofs.lemmas.List.Elements.{recursion_from_All}
use Rattle.std.proofs.lemmas.List.Sums.{sum_by_more_le}
use Rattle.definitions.specs.declared.Cell.{Cell}
use Rattle.definitions.specs.Sets.{same_cell, holds, all_cells, set_sum, units_of, ScaledValue, IsScaledMatrix, IsCellWithin, IsRising}
use Rattle.definitions.proofs.Members.{cell_test, rising_distinct}
use Rattle.definitions.proofs.Sums.{sum_same_all, sum_le_all, restrict, sum_of_units}
use Rattle.definitions.proofs.Cells.{cells_distinct, within_is_member, all_within}

twice : (b : Bool) (n : ℕ) → cond b (cond b n 0) 0 ≡ cond b n 0
twice true n = refl
twice false n = refl

part : (b c : Bool) (n : ℕ) → cond b (cond c n 0) 0 ≤ n
part true true n = omega arith
part true false n = omega arith
part false c n = omega arith

-- the units in rising cells are at most all units
pub cells_within : (x : ScaledValue) (cells : List Cell) → IsScaledMatrix x → IsRising cells → All (IsCellWithin x.agents x.columns) cells → set_sum (units_of x) cells ≤ sum x.units
cells_within x cells m r inside =
    let u : Cell → ℕ = units_of x in
    let all : List Cell = all_cells x.agents x.columns in
    let kept : Cell → ℕ = λ c. cond (holds (all_cells x.agents x.columns) c) (units_of x c) 0 in
    let one : sum_by u cells ≡ sum_by kept cells =
    sum_same_all (IsCellWithin x.agents x.columns) u kept cells
    (λ c k. sym (ap (λ b. cond b (units_of x c) 0) (within_is_member x.agents x.columns c k))) (recursion_from_All (IsCellWithin x.agents x.columns) cells inside) in
    let two : sum_by kept cells ≡ sum_by (λ c. cond (holds cells c) (kept c) 0) all =
    restrict same_cell cell_test kept cells all (rising_distinct cells r) (cells_distinct x.agents x.columns)
    (λ c. twice (holds (all_cells x.agents x.columns) c) (units_of x c)) in
    let three : sum_by (λ c. cond (holds cells c) (kept c) 0) all ≤ sum_by u all =
    sum_le_all (IsCellWithin x.agents x.columns) (λ c. cond (holds cells c) (kept c) 0) u all
    (λ c k. part (holds cells c) (holds (all_cells x.agents x.columns) c) (units_of x c)) (all_within x.agents x.columns) in
    let four : sum_by u all ≡ sum x.units = sum_of_units x.agents x.columns x.units m.shape in
    omega (arith, one, two, three, four)

-- so a running sum over them fits
pub sum_fits : (x : ScaledValue) (cells : List Cell) (k : ℕ) (d : Cell) → IsScaledMatrix x → IsRising cells → All (IsCellWithin x.agents x.columns) cells → k < length cells
    → set_sum (units_of x) (take k cells) + units_of x (get_or cells k d) < 2 ^ 128
sum_fits x cells k d m r inside l = omega (arith, cells_within x cells m r inside, sum_by_more_le (units_of x) cells k d l, m.total, m.limit)
