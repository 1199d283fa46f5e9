-- What the laws say of the places of a list: until when an agent eats of the first of them, and what it has eaten of each
-- by any moment. The laws hold of every table, and say in greatest numbers and sums what the definitions run through.
use Rattle.std.specs.Prelude.{◌≡◌, ℕ, ◌+◌, ◌-◌, ◌*◌, ◌<◌, ◌≤◌, ◌⊎◌, ◌∷◌, [], false, List, length, map, take, fold, sum_by, min, max, slice_get, slice_index, unwrap_or, nat_eq, IsTrue, if◌then◌else◌}
use Rattle.std.specs.List.{IsDistinct, range_with_len}
use Rattle.std.specs.Set.{is_member}
use Rattle.definitions.specs.declared.Cell.{Cell}
use Rattle.definitions.specs.Sets.{cell_of, holds}
use Rattle.definitions.specs.Values.{Agent, Market}
use Rattle.definitions.specs.Eating.{full_at, eaten_by, share, moment_at, limit_cells, no_agent}

-- the moment is that of a limit that holds the cell of agent i and column a
abbrev pub IsMomentOfLimit : Market → List ℕ → ℕ → ℕ → ℕ → Type 0
IsMomentOfLimit market e i a moment =
    (j : ℕ) × (j < length e) × IsTrue (holds (limit_cells market j) (cell_of i a)) × (moment ≡ moment_at e j)

-- the moment from which agent i can't eat of column a: the end, or the moment of a limit that holds the cell, and none of
-- these is earlier
pub record IsFullFrom (market : Market) (D : ℕ) (e : List ℕ) (i a moment : ℕ) : Type 0 where
  pub end : moment ≤ D
  pub limits : (j : ℕ) → j < length e → IsTrue (holds (limit_cells market j) (cell_of i a)) → moment ≤ moment_at e j
  pub one : (moment ≡ D) ⊎ IsMomentOfLimit market e i a moment

-- a column is full for an agent from the earliest of these moments on
abbrev pub FullFromTheEarliest : Type 0
FullFromTheEarliest = (market : Market) (D : ℕ) (e : List ℕ) (i a : ℕ)
    → IsFullFrom market D e i a (full_at D market.limits e i a)

-- the agent at index i, and past the agents one who eats nothing
abbrev pub agent_at : Market → ℕ → Agent
agent_at market i = unwrap_or (slice_get market.agents i) no_agent

-- the moment until which agent i eats of the first k places of its list: the greatest from which one of them is full
abbrev pub until : Market → ℕ → List ℕ → ℕ → ℕ → ℕ
until market D e i k =
    fold max 0 (map (full_at D market.limits e i) (take k (agent_at market i).list))

-- what agent i has eaten of place k of its list by moment t: its demand times the time that it has eaten there
abbrev pub eaten_of_place : Market → ℕ → List ℕ → ℕ → ℕ → ℕ → ℕ
eaten_of_place market D e i k t =
    (agent_at market i).demand * (min t (until market D e i (k + 1)) - min t (until market D e i k))

-- how many places agent i's list has
abbrev pub list_length : Market → ℕ → ℕ
list_length market i = length (agent_at market i).list

-- no column stands twice on agent i's list
abbrev pub HasDistinctList : Market → ℕ → Type 0
HasDistinctList market i = IsDistinct nat_eq (agent_at market i).list

-- the cell of place k of agent i's list
abbrev pub cell_of_place : Market → ℕ → ℕ → Cell
cell_of_place market i k = cell_of i (slice_index (agent_at market i).list k)

-- what agent i has eaten of these cells by moment t: the sum over the places whose cells are among them
abbrev pub eaten_of_list : Market → ℕ → List ℕ → List Cell → ℕ → ℕ → ℕ
eaten_of_list market D e cells t i =
    sum_by (λ k. if holds cells (cell_of_place market i k) then eaten_of_place market D e i k t else 0)
    (range_with_len 0 (list_length market i))

-- by moment t an agent has eaten of a place its demand times the time that it has eaten there, and all have eaten of
-- some cells the sum over the agents' places whose cells are among them
pub record IsEatenByPlaces (market : Market) (D : ℕ) (e : List ℕ) (t : ℕ) : Type 0 where
  pub place : (i k : ℕ) → HasDistinctList market i → k < list_length market i
      → eaten_by market D e (cell_of_place market i k ∷ []) t ≡ eaten_of_place market D e i k t
  pub cells : (cells : List Cell) → eaten_by market D e cells t
      ≡ sum_by (eaten_of_list market D e cells t) (range_with_len 0 (length market.agents))

-- so it is by any moment
abbrev pub EatenByPlaces : Type 0
EatenByPlaces = (market : Market) (D : ℕ) (e : List ℕ) (t : ℕ) → IsEatenByPlaces market D e t

-- an agent's shares of the first k columns of its list add up to its demand times the moment until which it eats of them
abbrev pub PrefixesAddUp : Type 0
PrefixesAddUp = (market : Market) (D : ℕ) (e : List ℕ) (i k : ℕ) → HasDistinctList market i
    → sum_by (share market D e i) (take k (agent_at market i).list)
    ≡ (agent_at market i).demand * min D (until market D e i k)

-- agent i's share of the column at place k is what it has eaten of that place by the end, and 0 of a column off its list
pub record AreSharesByPlace (market : Market) (D : ℕ) (e : List ℕ) (i : ℕ) : Type 0 where
  pub on : (k : ℕ) → k < list_length market i
      → share market D e i (slice_index (agent_at market i).list k) ≡ eaten_of_place market D e i k D
  pub off : (a : ℕ) → is_member nat_eq (agent_at market i).list a ≡ false → share market D e i a ≡ 0

-- so it is of each agent without a column twice on its list
abbrev pub SharesByPlace : Type 0
SharesByPlace = (market : Market) (D : ℕ) (e : List ℕ) (i : ℕ) → HasDistinctList market i
    → AreSharesByPlace market D e i
