-- Random assignments of a problem, and which dominates which. Fractions are multiplied out.
-- Random assignment, stochastic dominance: Bogomolnaia and Moulin 2001.
-- A matrix is a function of cells that counts units, beside its denominator.
use Rattle.std.specs.Prelude.{◌≡◌, ℕ, ◌*◌, ◌<◌, ◌≤◌, false, List, [], ◌∷◌, length, map, All, flat_map, ℤ, pos, ◌+ℤ◌, ◌*ℤ◌}
use Rattle.std.specs.List.{zip, range_with_len}
use Rattle.definitions.specs.declared.Cell.{Cell}
use Rattle.definitions.specs.Sets.{cell_of, holds, set_sum, row_sum, prefix_sum}
use Rattle.definitions.specs.Values.{ProblemValue, column_count, list_at, demand_at, listed_cells, limits_of, PricesValue, worths_of}

-- x over d: each row adds up to its agent's demand, nothing stands off the lists, and no limit of the problem is passed
pub record IsRandomAssignment (p : ProblemValue) (d : ℕ) (x : Cell → ℕ) : Type 0 where
  pub one : 1 ≤ d
  pub rows : (i : ℕ) → i < length p.agents → row_sum x (column_count p) i ≡ demand_at p i * d
  pub listed : (c : Cell) → holds (listed_cells p) c ≡ false → x c ≡ 0
  pub kept : All (λ s. set_sum x s.cells ≤ s.ceiling * d) (limits_of p)

-- x over d dominates y over e: x gives each agent at least as much of the first k places of its list, and more at one agent and k
pub record Dominates (p : ProblemValue) (d : ℕ) (x : Cell → ℕ) (e : ℕ) (y : Cell → ℕ) : Type 0 where
  pub each : (i k : ℕ) → i < length p.agents → k ≤ length (list_at p i)
      → d * prefix_sum y i (list_at p i) k ≤ e * prefix_sum x i (list_at p i) k
  pub more : (i : ℕ) × (k : ℕ) × (i < length p.agents) × (k ≤ length (list_at p i))
      × (d * prefix_sum y i (list_at p i) k < e * prefix_sum x i (list_at p i) k)

-- a place of a list: its worth, and the units there
pub record Held : Type 0 where
  pub worth : ℤ
  pub units : ℕ

-- agent i's places, with their worths and the units of x
abbrev pub held_by : ProblemValue → PricesValue → (Cell → ℕ) → ℕ → List Held
held_by p y x i = map (λ w. record { worth = w.1; units = x (cell_of i w.0) }) (zip (list_at p i) (worths_of y i))

-- the sum of worth times units over these places
abbrev pub worth_sum : List Held → ℤ
worth_sum [] = pos 0
worth_sum (h ∷ hs) = h.worth *ℤ pos h.units +ℤ worth_sum hs

-- what x is worth: the sum of worth times units over all places of all lists
abbrev pub worth_total : ProblemValue → PricesValue → (Cell → ℕ) → ℤ
worth_total p y x = worth_sum (flat_map (held_by p y x) (range_with_len 0 (length p.lists)))
