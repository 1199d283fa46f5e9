-- What eating goes over: each agent's list with the limits that hold its cells.
use Rattle.std.specs.Prelude.{◌≡◌, ℕ, ◌-◌, ◌<◌, ◌≤◌, ◌^◌, ◌==◌, min, List, [], ◌∷◌, length, All, count_by, sum_by, slice_get, slice_index, unwrap_or, Some, nat_le, if◌then◌else◌}
use Rattle.definitions.specs.Values.{Agent, Market, ProblemValue, demand_at, list_at}
use Rattle.definitions.specs.Eating.{moment_at, demand_sum}
use Rattle.eating_laws.proofs.Holders.{IsHolders}

-- an agent's demand, its list, and for each place the limits that hold the cell there
pub record LineValue : Type 0 where
  pub demand : ℕ
  pub columns : List ℕ
  pub holders : List (List ℕ)

-- the limits at a place
abbrev pub holders_at : LineValue → ℕ → List ℕ
holders_at line k = unwrap_or (slice_get line.holders k) []

-- a line of at most 201 places over so many limits: each of them once at a place, and none at the last place
pub record IsLine (limits : ℕ) (line : LineValue) : Type 0 where
  pub many : length line.holders ≡ length line.columns
  pub some : 0 < length line.columns
  pub short : length line.columns ≤ 201
  pub last : holders_at line (length line.columns - 1) ≡ []
  pub inside : (k : ℕ) → All (λ h. h < limits) (holders_at line k)
  pub once : (k j : ℕ) → count_by (λ h. h == j) (holders_at line k) ≤ 1

-- lines over so many limits, whose demands are at most 1,000 in all
pub record AreLines (limits : ℕ) (lines : List LineValue) : Type 0 where
  pub each : (i : ℕ) (line : LineValue) → slice_get lines i ≡ Some line → IsLine limits line
  pub demands : sum_by (λ line. line.demand) lines ≤ 1000

-- agent i of a problem, with its demand and its list
abbrev pub agent_at : ProblemValue → ℕ → Agent
agent_at p i = record { demand = demand_at p i; list = list_at p i }

-- the line of agent i
pub record IsLineOf (market : Market) (i : ℕ) (w : Agent) (line : LineValue) : Type 0 where
  pub demand : line.demand ≡ w.demand
  pub columns : line.columns ≡ w.list
  pub holders : (k : ℕ) → k < length line.columns → IsHolders market i (slice_index line.columns k) (holders_at line k)

-- the lines of a market's agents
pub record AreLinesOf (market : Market) (lines : List LineValue) : Type 0 where
  pub many : length lines ≡ length market.agents
  pub each : (i : ℕ) (w : Agent) (line : LineValue) → slice_get market.agents i ≡ Some w → slice_get lines i ≡ Some line → IsLineOf market i w line
  pub limits : AreLines (length market.limits) lines

-- the least of D and the moments of those of these limits that are at least `first`
unfoldable pub least_from : ℕ → List ℕ → ℕ → List ℕ → ℕ
least_from D e first [] = D
least_from D e first (h ∷ holders) = if nat_le first h then min (moment_at e h) (least_from D e first holders) else least_from D e first holders

-- a market in which no ceiling and no sum of demands is above 1,000, with less than 2^32 limits
pub record IsSmall (market : Market) : Type 0 where
  pub few : length market.limits < 2 ^ 32
  pub ceilings : All (λ s. s.ceiling ≤ 1000) market.limits
  pub demands : demand_sum market ≤ 1000
