-- Who envies whom, and where on the list. Envy over the own list: Bogomolnaia and Moulin 2001.
use Rattle.std.specs.Prelude.{◌≡◌, ℕ, ◌+◌, ◌<◌, ◌≤◌, List, length, nat_lt, if◌then◌else◌, Option, Some, None, option_map, flat_map, All}
use Rattle.std.specs.List.{filter_map, range_with_len}
use Rattle.definitions.specs.declared.Cell.{Cell}
use Rattle.definitions.specs.Sets.{prefix_sum, ScaledValue}
use Rattle.definitions.specs.Values.{ProblemValue, column_count, list_at, market_of}
use Rattle.definitions.specs.Eating.{IsAssignmentOf}
use Rattle.definitions.specs.Fairness.{IsAlike}
use Rattle.definitions.specs.Firsts.{first_in}
use Rattle.fairness_core.specs.declared.point.EnvyPoint.{EnvyPoint}
use Rattle.fairness_core.specs.declared.list.Envy.{Envy}

-- at a place of i's list, from 0: where j has more than i of the columns up to it, the place from 1 with both sums
abbrev pub envy_look : ProblemValue → (Cell → ℕ) → ℕ → ℕ → ℕ → Option EnvyPoint
envy_look p x i j k =
    if nat_lt (prefix_sum x i (list_at p i) (k + 1)) (prefix_sum x j (list_at p i) (k + 1))
    then Some (record { place = k + 1; own = prefix_sum x i (list_at p i) (k + 1); other = prefix_sum x j (list_at p i) (k + 1) })
    else None

-- the first place at which i envies j
abbrev pub first_envy : ProblemValue → (Cell → ℕ) → ℕ → ℕ → Option EnvyPoint
first_envy p x i j = first_in (envy_look p x i j) 0 (length (list_at p i))

-- i's envy of j as an entry of the list, if i envies j
abbrev pub envy_between : ProblemValue → (Cell → ℕ) → ℕ → ℕ → Option Envy
envy_between p x i j = option_map (λ point. record { from = i; to = j; point = point }) (first_envy p x i j)

-- whom agent i envies, in order
abbrev pub envies_of : ProblemValue → (Cell → ℕ) → ℕ → List Envy
envies_of p x i = filter_map (envy_between p x i) (range_with_len 0 (length p.agents))

-- all pairs with an envy point, by the one who envies and then the other
abbrev pub all_envies : ProblemValue → (Cell → ℕ) → List Envy
all_envies p x = flat_map (envies_of p x) (range_with_len 0 (length p.agents))

-- the first place, from 1, at which j has more than i of the columns at i's places up to it, with both sums
pub record IsEnvyPoint (p : ProblemValue) (x : Cell → ℕ) (i j : ℕ) (point : EnvyPoint) : Type 0 where
  pub counted : 1 ≤ point.place
  pub within : point.place ≤ length (list_at p i)
  pub own : point.own ≡ prefix_sum x i (list_at p i) point.place
  pub other : point.other ≡ prefix_sum x j (list_at p i) point.place
  pub more : point.own < point.other
  pub before : (k : ℕ) → k < point.place → prefix_sum x j (list_at p i) k ≤ prefix_sum x i (list_at p i) k

-- the entry names two agents, and where the one envies the other
pub record IsEnvy (p : ProblemValue) (x : Cell → ℕ) (e : Envy) : Type 0 where
  pub from : e.from < length p.agents
  pub to : e.to < length p.agents
  pub point : IsEnvyPoint p x e.from e.to e.point

-- no entry names two who are alike
abbrev pub NoneAlike : ProblemValue → List Envy → Type 0
NoneAlike p envies = All (λ e. IsAlike p e.from e.to → ⊥) envies

-- x is what the agents have in the end by some table of the problem
abbrev pub IsTableAssignment : ProblemValue → ScaledValue → Type 0
IsTableAssignment p x = (e : List ℕ) × IsAssignmentOf (column_count p) (market_of p) x.denominator e x
