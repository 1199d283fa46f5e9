-- The eating table: simultaneous eating under ceilings, with demands as speeds, as a condition on a finished table.
-- Simultaneous eating: Bogomolnaia and Moulin 2001. The table over whole numbers and its limit 2^116 are the project's.
-- A table e over D has for each limit of a market the moment at which it is full; the moment 1 is the whole number D.
-- A limit that isn't full before the end has the number D. Limits count from 0: limit j has entry j, and stated set s is limit s - 1.
use Rattle.std.specs.Prelude.{◌≡◌, ℕ, ◌+◌, ◌-◌, ◌*◌, ◌<◌, ◌≤◌, ◌^◌, ◌⊎◌, ◌==◌, min, max, Bool, List, [], ◌∷◌, length, slice_get, slice_index, if◌then◌else◌, unwrap_or, sum_by}
use Rattle.std.specs.Option.{option_map_or}
use Prim.Native.Nat.{◌∣◌}
use Rattle.definitions.specs.declared.Cell.{Cell}
use Rattle.definitions.specs.Sets.{cell_of, holds, unit_at, ScaledValue}
use Rattle.definitions.specs.Values.{Limit, Agent, Market}

-- the moment from which agent i can't eat of column a: the least over the limits that hold the cell, or D where none does
unfoldable pub full_at : ℕ → List Limit → List ℕ → ℕ → ℕ → ℕ
full_at D [] e i a = D
full_at D (s ∷ limits) [] i a = D
full_at D (s ∷ limits) (x ∷ e) i a =
    if holds s.cells (cell_of i a) then min x (full_at D limits e i a) else full_at D limits e i a

-- the greatest of `from` and the moments at which these columns are full
unfoldable pub reached : (ℕ → ℕ) → ℕ → List ℕ → ℕ
reached full from [] = from
reached full from (a ∷ list) = reached full (max from (full a)) list

-- what an agent of demand d has eaten by moment t along a list, of the columns that pass the test `of`;
-- `from` is the greatest moment over the places before the list
unfoldable pub eaten_along : ℕ → (ℕ → ℕ) → (ℕ → Bool) → ℕ → ℕ → List ℕ → ℕ
eaten_along d full of from t [] = 0
eaten_along d full of from t (a ∷ list) =
    (if of a then d * (min t (max from (full a)) - min t from) else 0)
    + eaten_along d full of (max from (full a)) t list

-- what the agents from i on have eaten of these cells by moment t
unfoldable pub eaten_from : ℕ → List Limit → List ℕ → List Cell → ℕ → ℕ → List Agent → ℕ
eaten_from D limits e cells t i [] = 0
eaten_from D limits e cells t i (w ∷ agents) =
    eaten_along w.demand (full_at D limits e i) (λ a. holds cells (cell_of i a)) 0 t w.list
    + eaten_from D limits e cells t (i + 1) agents

-- what all agents have eaten of these cells by moment t
unfoldable pub eaten_by : Market → ℕ → List ℕ → List Cell → ℕ → ℕ
eaten_by market D e cells t = eaten_from D market.limits e cells t 0 market.agents

-- one who eats nothing
abbrev pub no_agent : Agent
no_agent = record { demand = 0; list = [] }

-- what agent i has of column a in the end, which is 0 off its list
abbrev pub share : Market → ℕ → List ℕ → ℕ → ℕ → ℕ
share market D e i a = let w : Agent = unwrap_or (slice_get market.agents i) no_agent in
    eaten_along w.demand (full_at D market.limits e i) (λ b. b == a) 0 D w.list

-- the moment of limit j
abbrev pub moment_at : List ℕ → ℕ → ℕ
moment_at e j = slice_index e j

-- the cells of limit j, and none past the limits
abbrev pub limit_cells : Market → ℕ → List Cell
limit_cells market j = option_map_or (λ s. s.cells) (slice_get market.limits j) []

-- the ceiling of limit j, and 0 past the limits
abbrev pub limit_ceiling : Market → ℕ → ℕ
limit_ceiling market j = option_map_or (λ s. s.ceiling) (slice_get market.limits j) 0

-- the sum of all demands
abbrev pub demand_sum : Market → ℕ
demand_sum market = sum_by (λ w. w.demand) market.agents

-- x is the assignment of the table over so many columns: a row for each agent, and in it what the agent has of each column in the end
pub record IsAssignmentOf (width : ℕ) (market : Market) (D : ℕ) (e : List ℕ) (x : ScaledValue) : Type 0 where
  pub agents : x.agents ≡ length market.agents
  pub columns : x.columns ≡ width
  pub shape : length x.units ≡ x.agents * x.columns
  pub denominator : x.denominator ≡ D
  pub units : (i a : ℕ) → i < x.agents → a < x.columns → unit_at x.columns x.units (cell_of i a) ≡ share market D e i a

-- the eating table: before its number a limit isn't full, at its number it isn't passed, and is full where that is before the end
pub record IsEatingTable (market : Market) (D : ℕ) (e : List ℕ) : Type 0 where
  pub positive : 1 ≤ D
  pub size : length e ≡ length market.limits
  pub within : (j : ℕ) → j < length e → moment_at e j ≤ D
  pub before : (j t : ℕ) → j < length e → t < moment_at e j → eaten_by market D e (limit_cells market j) t < limit_ceiling market j * D
  pub kept : (j : ℕ) → j < length e → eaten_by market D e (limit_cells market j) (moment_at e j) ≤ limit_ceiling market j * D
  pub full : (j : ℕ) → j < length e → moment_at e j < D → eaten_by market D e (limit_cells market j) (moment_at e j) ≡ limit_ceiling market j * D

-- no number above 1 divides D and every number of the table; a number D changes nothing here
pub record IsLowestTerms (D : ℕ) (e : List ℕ) : Type 0 where
  pub lowest : (f : ℕ) → f ∣ D → ((j : ℕ) → j < length e → f ∣ moment_at e j) → f ≤ 1

-- a table up to the moment m: its numbers are at most m, one of them m, and D stands for a limit that is full later
pub record IsPartialTable (market : Market) (D m : ℕ) (e : List ℕ) : Type 0 where
  pub before_end : m < D
  pub size : length e ≡ length market.limits
  pub said : (j : ℕ) → j < length e → (moment_at e j ≤ m) ⊎ (moment_at e j ≡ D)
  pub some : (j : ℕ) × (j < length e) × (moment_at e j ≡ m)
  pub before : (j t : ℕ) → j < length e → t ≤ m → t < moment_at e j → eaten_by market D e (limit_cells market j) t < limit_ceiling market j * D
  pub full : (j : ℕ) → j < length e → moment_at e j ≤ m → eaten_by market D e (limit_cells market j) (moment_at e j) ≡ limit_ceiling market j * D

-- the first table that is too fine: in lowest terms its D is above 2^116, and the moments before m alone fit a denominator up to 2^116
pub record IsFirstTooFine (market : Market) (D m : ℕ) (e : List ℕ) : Type 0 where
  pub partial : IsPartialTable market D m e
  pub lowest : IsLowestTerms D e
  pub above : 2 ^ 116 < D
  pub fits_before : (f : ℕ) × (c : ℕ) × (f * c ≡ D) × (c ≤ 2 ^ 116) ×
      ((j : ℕ) → j < length e → moment_at e j < m → f ∣ moment_at e j)
