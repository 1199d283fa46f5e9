-- Prices of cells, summed over places, are prices of sets times what the sets hold.
use Rattle.std.proofs.Common.{◌≡◌, ℕ, ◌*◌, List, refl, ap, sym, ◌∙◌, arith, Bool, true, false, cond}
use Rattle.std.specs.Prelude.{sum_by}
use Rattle.std.specs.List.{AllByRecursion, IsDistinct}
use Rattle.std.proofs.Math.Nat.{mul_comm}
use Rattle.definitions.specs.declared.Cell.{Cell}
use Rattle.definitions.specs.Sets.{same_cell, holds, set_sum, SetValue}
use Rattle.definitions.proofs.Members.{cell_test}
use Rattle.definitions.proofs.Sums.{sum_same, sum_same_all, exchange, sum_scaled, restrict}

-- the price of one set at a cell, times the cell's units
pick : (b : Bool) (y n : ℕ) → cond b y 0 * n ≡ y * cond b n 0
pick true y n = refl
pick false y n = omega arith

sum_times : {X : Type 0} (f : X → ℕ) (n : ℕ) (xs : List X) → sum_by (λ x. f x * n) xs ≡ sum_by f xs * n
sum_times f n xs = sum_same (λ x. f x * n) (λ x. n * f x) xs (λ x. mul_comm (f x) n) ∙ sum_scaled n f xs ∙ mul_comm n (sum_by f xs)

-- the price of a cell, where each set stands beside its price
abbrev pub price_in : List (SetValue × ℕ) → Cell → ℕ
price_in priced c = sum_by (λ s. cond (holds s.0.cells c) s.1 0) priced

-- for units that stand at these places alone
pub prices_exchanged : (x : Cell → ℕ) (places : List Cell) (priced : List (SetValue × ℕ)) → IsDistinct same_cell places
    → AllByRecursion (λ (s : SetValue × ℕ). IsDistinct same_cell s.0.cells) priced → ((c : Cell) → cond (holds places c) (x c) 0 ≡ x c)
    → sum_by (λ c. price_in priced c * x c) places ≡ sum_by (λ (s : SetValue × ℕ). s.1 * set_sum x s.0.cells) priced
prices_exchanged x places priced a b off =
    let one : sum_by (λ c. price_in priced c * x c) places ≡ sum_by (λ c. sum_by (λ (s : SetValue × ℕ). s.1 * cond (holds s.0.cells c) (x c) 0) priced) places =
    sum_same (λ c. price_in priced c * x c) (λ c. sum_by (λ (s : SetValue × ℕ). s.1 * cond (holds s.0.cells c) (x c) 0) priced) places
    (λ c. sym (sum_times (λ (s : SetValue × ℕ). cond (holds s.0.cells c) s.1 0) (x c) priced)
    ∙ sum_same (λ (s : SetValue × ℕ). cond (holds s.0.cells c) s.1 0 * x c) (λ s. s.1 * cond (holds s.0.cells c) (x c) 0) priced (λ s. pick (holds s.0.cells c) s.1 (x c))) in
    let two : sum_by (λ c. sum_by (λ (s : SetValue × ℕ). s.1 * cond (holds s.0.cells c) (x c) 0) priced) places ≡ sum_by (λ (s : SetValue × ℕ). sum_by (λ c. s.1 * cond (holds s.0.cells c) (x c) 0) places) priced =
    exchange (λ c (s : SetValue × ℕ). s.1 * cond (holds s.0.cells c) (x c) 0) places priced in
    let three : sum_by (λ (s : SetValue × ℕ). sum_by (λ c. s.1 * cond (holds s.0.cells c) (x c) 0) places) priced ≡ sum_by (λ (s : SetValue × ℕ). s.1 * set_sum x s.0.cells) priced =
    sum_same_all (λ (s : SetValue × ℕ). IsDistinct same_cell s.0.cells) (λ (s : SetValue × ℕ). sum_by (λ c. s.1 * cond (holds s.0.cells c) (x c) 0) places) (λ s. s.1 * set_sum x s.0.cells) priced
    (λ s p. sum_scaled s.1 (λ c. cond (holds s.0.cells c) (x c) 0) places ∙ ap (λ n. s.1 * n) (sym (restrict same_cell cell_test x s.0.cells places p a off))) b in
    one ∙ two ∙ three
