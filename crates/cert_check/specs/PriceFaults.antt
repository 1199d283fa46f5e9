-- The first fault of prices: checks 7, 8, 9, 18, 10, 11 and 12, each a look at one place after another.
-- The project's order of checks. Agents, columns, places and sets count from 0 here, and from 1 in a fault.
use Rattle.std.specs.Prelude.{◌≡◌, ℕ, ◌+◌, ◌-◌, ◌*◌, ◌<◌, ◌≤◌, ◌^◌, ◌==◌, ◌&&◌, not, List, [], length, slice_index, slice_index_or, nat_lt, nat_eq, Option, Some, None, if◌then◌else◌, ℤ, pos, ◌-ℤ◌, ◌≤ℤ◌, neg_ℤ, int_lt, All}
use Rattle.std.specs.Option.{option_or}
use Rattle.std.specs.Set.{is_member}
use Rattle.definitions.specs.Sets.{cell_of, set_sum, row_sum, units_of, SetValue, ScaledValue}
use Rattle.definitions.specs.Values.{ProblemValue, IsProblem, column_count, list_at, demand_at, stated_sets, is_capped, PricesValue}
use Rattle.definitions.specs.Certificate.{HasShapeOf, worth_at, place_cell, cell_price, is_left_out}
use Rattle.definitions.specs.Firsts.{first_in}
use Rattle.cert_check.specs.declared.faults.Fault.{Fault}
use Rattle.cert_check.specs.declared.faults.Fault.TheVariants.{RowSum, OffList, OverCeiling, OverCap, WorthNotFalling, PriceNotFull, NotBest}

-- x is a matrix of the problem's agents and columns
pub record IsMatrixOf (p : ProblemValue) (x : ScaledValue) : Type 0 where
  pub agents : x.agents ≡ length p.agents
  pub columns : x.columns ≡ column_count p

-- prices are at most 2^40, and worths of size at most 2^40
pub record AreSmall (y : PricesValue) : Type 0 where
  pub prices : All (λ n. n ≤ 2 ^ 40) y.price
  pub worths : All (All (λ w. (neg_ℤ (pos (2 ^ 40)) ≤ℤ w) × (w ≤ℤ pos (2 ^ 40)))) y.worth

-- a lawful problem, and a matrix of its agents and columns
pub record IsProblemMatrix (p : ProblemValue) (x : ScaledValue) : Type 0 where
  pub problem : IsProblem p
  pub matrix : IsMatrixOf p x

-- a lawful problem, and small prices and worths of its shape
pub record ArePriced (p : ProblemValue) (y : PricesValue) : Type 0 where
  pub problem : IsProblem p
  pub shape : HasShapeOf p y
  pub small : AreSmall y

-- a set without cells
abbrev pub no_set : SetValue
no_set = record { side = 0; floor = 0; ceiling = 0; cells = [] }

-- the stated set at index s
abbrev pub stated_at : ProblemValue → ℕ → SetValue
stated_at p s = slice_index_or (stated_sets p) s no_set

-- the units in its cells
abbrev pub stated_sum : ProblemValue → ScaledValue → ℕ → ℕ
stated_sum p x s = set_sum (units_of x) (stated_at p s).cells

-- the units that it may have
abbrev pub stated_room : ProblemValue → ScaledValue → ℕ → ℕ
stated_room p x s = (stated_at p s).ceiling * x.denominator

-- 7: the row's units don't add up to demand times D
abbrev pub row_look : ProblemValue → ScaledValue → ℕ → Option Fault
row_look p x i =
    if not (row_sum (units_of x) (column_count p) i == demand_at p i * x.denominator)
    then Some (RowSum (i + 1) (row_sum (units_of x) (column_count p) i)) else None

-- 8: units above 0 off the agent's list
abbrev pub off_list_look : ProblemValue → ScaledValue → ℕ → ℕ → Option Fault
off_list_look p x i a =
    if not (is_member nat_eq (list_at p i) a) && nat_lt 0 (units_of x (cell_of i a))
    then Some (OffList (i + 1) (a + 1) (units_of x (cell_of i a))) else None

-- 9: the sum is above ceiling times D
abbrev pub ceiling_look : ProblemValue → ScaledValue → ℕ → Option Fault
ceiling_look p x s = if nat_lt (stated_room p x s) (stated_sum p x s) then Some (OverCeiling (s + 1) (stated_sum p x s)) else None

-- 18: a capped cell has more than D units
abbrev pub cap_look : ProblemValue → ScaledValue → ℕ → ℕ → Option Fault
cap_look p x i a =
    if is_capped p (cell_of i a) && nat_lt x.denominator (units_of x (cell_of i a))
    then Some (OverCap (i + 1) (a + 1) (units_of x (cell_of i a))) else None

-- 10: the worth at place k isn't above that of the next place
abbrev pub falling_look : PricesValue → ℕ → ℕ → Option Fault
falling_look y i k =
    if not (int_lt (worth_at y i (k + 1)) (worth_at y i k))
    then Some (WorthNotFalling (i + 1) (k + 1) (worth_at y i k) (worth_at y i (k + 1))) else None

-- 11: the price is above 0 and the sum below ceiling times D
abbrev pub full_look : ProblemValue → ScaledValue → PricesValue → ℕ → Option Fault
full_look p x y s =
    if nat_lt 0 (slice_index y.price s) && nat_lt (stated_sum p x s) (stated_room p x s)
    then Some (PriceNotFull (s + 1) (slice_index y.price s) (stated_sum p x s)) else None

-- the worth at place k minus the price of its cell
abbrev pub gain_at : ProblemValue → PricesValue → ℕ → ℕ → ℤ
gain_at p y i k = worth_at y i k -ℤ pos (cell_price p y (place_cell p i k))

-- 12: place j isn't left out, and its gain is greater than that of place k
abbrev pub better_look : ProblemValue → ScaledValue → PricesValue → ℕ → ℕ → ℕ → Option Fault
better_look p x y i k j =
    if not (is_left_out p x.denominator (units_of x) (place_cell p i j)) && int_lt (gain_at p y i k) (gain_at p y i j)
    then Some (NotBest (i + 1) (k + 1) (gain_at p y i k) (j + 1) (gain_at p y i j)) else None

-- the first such place, where place k has units above 0
abbrev pub best_look : ProblemValue → ScaledValue → PricesValue → ℕ → ℕ → Option Fault
best_look p x y i k =
    if nat_lt 0 (units_of x (place_cell p i k)) then first_in (better_look p x y i k) 0 (length (list_at p i)) else None

-- the first fault of each check
abbrev pub row_fault : ProblemValue → ScaledValue → Option Fault
row_fault p x = first_in (row_look p x) 0 (length p.agents)

abbrev pub off_list_fault : ProblemValue → ScaledValue → Option Fault
off_list_fault p x = first_in (λ i. first_in (off_list_look p x i) 0 (column_count p)) 0 (length p.agents)

abbrev pub ceiling_fault : ProblemValue → ScaledValue → Option Fault
ceiling_fault p x = first_in (ceiling_look p x) 0 p.stated

abbrev pub cap_fault : ProblemValue → ScaledValue → Option Fault
cap_fault p x = first_in (λ i. first_in (cap_look p x i) 0 (column_count p)) 0 (length p.agents)

abbrev pub falling_fault : ProblemValue → PricesValue → Option Fault
falling_fault p y = first_in (λ i. first_in (falling_look y i) 0 (length (list_at p i) - 1)) 0 (length p.agents)

abbrev pub full_fault : ProblemValue → ScaledValue → PricesValue → Option Fault
full_fault p x y = first_in (full_look p x y) 0 p.stated

abbrev pub best_fault : ProblemValue → ScaledValue → PricesValue → Option Fault
best_fault p x y = first_in (λ i. first_in (best_look p x y i) 0 (length (list_at p i))) 0 (length p.agents)

-- the first fault of prices
abbrev pub first_price_fault : ProblemValue → ScaledValue → PricesValue → Option Fault
first_price_fault p x y =
    option_or (row_fault p x) (option_or (off_list_fault p x) (option_or (ceiling_fault p x) (option_or (cap_fault p x)
    (option_or (falling_fault p y) (option_or (full_fault p x y) (best_fault p x y))))))

-- the prices of the cells in agent i's row, by column
pub record IsPriceRow (p : ProblemValue) (y : PricesValue) (i : ℕ) (row : List ℕ) : Type 0 where
  pub many : length row ≡ 201
  pub prices : (a : ℕ) → a < 201 → slice_index row a ≡ cell_price p y (cell_of i a)
