-- The sum of a matrix over a set is at most the sum of the matrix.
use Rattle.std.proofs.Common.{◌≡◌, ℕ, suc, ◌+◌, ◌-◌, ◌*◌, ◌<◌, ◌≤◌, ◌^◌, ◌∙◌, List, [], ◌∷◌, length, get_or, take, drop, ap, inl, inr, arith, All}
use Rattle.std.specs.Prelude.{sum, sum_by}
use Rattle.std.proofs.lemmas.Bool.{cases_lt}
use Rattle.std.proofs.lemmas.List.{get_or_past, drop-drop}
use Rattle.std.proofs.lemmas.List.Elements.{All-head, All-tail}
use Rattle.std.proofs.lemmas.List.Sums.{sum_by-cons, sum_by-take-drop, sum_by-drop_more, sum_by_more_le}
use Rattle.std.proofs.Math.Nat.{mul-le-mul_right}
use Rattle.definitions.specs.declared.Cell.{Cell}
use Rattle.definitions.specs.Sets.{SetValue, ScaledValue, IsBefore, IsRising, IsCellWithin, IsInRange, IsQuotaSet, IsScaledMatrix, cell_index, unit_at, units_of, set_sum}
use Rattle.definitions.proofs.Sums.{unit_at_within}
use Rattle.definitions.proofs.Members.{rising_rest}

-- a later cell stands later in the list
index_rises : (columns : ℕ) (a b : Cell) → a.object < columns → IsBefore a b → cell_index columns a < cell_index columns b
index_rises columns a b l (inl before) =
    let more : suc a.agent * columns ≤ b.agent * columns = mul-le-mul_right columns before in
    let step : suc a.agent * columns ≡ a.agent * columns + columns = grind arith in
    omega (arith, more, step)
index_rises columns a b l (inr (same, before)) =
    let row : a.agent * columns ≡ b.agent * columns = ap (λ i. i * columns) same in
    omega (arith, row)

-- what is left from a place on, of which a later part is a part
rest_falls : (units : List ℕ) (j k : ℕ) → j ≤ k → sum (drop k units) ≤ sum (drop j units)
rest_falls units j k l =
    let d : ℕ = k - j in
    let at : j + d ≡ k = omega arith in
    let parts = sum_by-take-drop (λ (n : ℕ). n) (drop j units) d in
    let same : drop d (drop j units) ≡ drop k units = drop-drop d j units ∙ ap (λ n. drop n units) at in
    let sums : sum (drop d (drop j units)) ≡ sum (drop k units) = ap sum same in
    omega (arith, parts, sums)

-- a unit and what is left after it
unit_and_rest : (units : List ℕ) (k : ℕ) → get_or units k 0 + sum (drop (k + 1) units) ≤ sum (drop k units)
unit_and_rest units k = elim (cases_lt k (length units)) [
  | inl within ↦ omega (arith, sum_by-drop_more (λ (n : ℕ). n) units k 0 within)
  | inr past ↦
      let none : get_or units k 0 ≡ 0 = get_or_past units k 0 past in
      omega (arith, none, rest_falls units k (k + 1) (omega arith))
]

after_head : (c : Cell) (cells : List Cell) → IsRising (c ∷ cells) → All (IsBefore c) cells
after_head c cells rises k d l = rises 0 (suc k) d (omega arith) (omega arith)

-- the units of rising cells from a place on are at most what is left from there
sum_from : (agents columns : ℕ) (units : List ℕ) (cells : List Cell) (k : ℕ) → IsRising cells → All (IsCellWithin agents columns) cells
    → All (λ c. k ≤ cell_index columns c) cells → sum_by (unit_at columns units) cells ≤ sum (drop k units)
sum_from agents columns units [] k rises inside from = omega arith
sum_from agents columns units (c ∷ cells) k rises inside from =
    let here = All-head (IsCellWithin agents columns) c cells inside in
    let later : All (λ b. cell_index columns c + 1 ≤ cell_index columns b) cells =
    (λ j d l. let more = index_rises columns c (get_or cells j d) here.1 (after_head c cells rises j d l) in omega (arith, more)) in
    let rest = sum_from agents columns units cells (cell_index columns c + 1) (rising_rest c cells rises) (All-tail (IsCellWithin agents columns) c cells inside) later in
    let unit = unit_at_within columns units c here.1 in
    let low = All-head (λ b. k ≤ cell_index columns b) c cells from in
    omega (arith, sum_by-cons (unit_at columns units) c cells, unit, rest, unit_and_rest units (cell_index columns c), rest_falls units k (cell_index columns c) low)

-- so the sum over a lawful set is at most 1,000 times the denominator
pub set_sum-le : (x : ScaledValue) (s : SetValue) → IsScaledMatrix x → IsQuotaSet s → IsInRange x.agents x.columns s
    → set_sum (units_of x) s.cells ≤ 1000 * x.denominator
set_sum-le x s matrix set inside =
    let all = sum_from x.agents x.columns x.units s.cells 0 set.rise inside (λ k d l. omega arith) in
    omega (arith, all, matrix.total)

-- so no running sum over a lawful set passes the end of its type
pub set_sum-fits : (x : ScaledValue) (s : SetValue) (k : ℕ) (d : Cell) → IsScaledMatrix x → IsQuotaSet s → IsInRange x.agents x.columns s → k < length s.cells
    → set_sum (units_of x) (take k s.cells) + units_of x (get_or s.cells k d) < 2 ^ 128
set_sum-fits x s k d matrix set inside within =
    let whole = set_sum-le x s matrix set inside in
    let part = sum_by_more_le (units_of x) s.cells k d within in
    omega (arith, whole, part, matrix.limit)
