-- The moments before the end in order, and their numbers.
use Rattle.std.specs.Prelude.{ℕ, ◌+◌, ◌≤◌, ◌↔◌, ◌++◌, List, length, filter, count_by, nat_lt, Contains}
use Rattle.std.specs.List.Sorted.{IsStrictlyIncreasing}

-- the moments before d that stand in one of two lists, rising, and so each once
pub record IsNumbering (d : ℕ) (moments caps order : List ℕ) : Type 0 where
  pub rise : IsStrictlyIncreasing order
  pub each : (v : ℕ) → Contains order v ↔ Contains (filter (λ m. nat_lt m d) moments ++ filter (λ m. nat_lt m d) caps) v
  pub few : length order ≤ length moments + length caps

-- the number of a moment among these, from 1
abbrev pub number_in : List ℕ → ℕ → ℕ
number_in order v = count_by (λ m. nat_lt m v) order + 1
