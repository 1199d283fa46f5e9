-- What contracts see of problems, prices, pieces and shares. The project's own.
-- A problem has agents with demands, objects, and for each agent a list of columns. The column after the objects
-- is that of `none`, the last on each list.
use Rattle.std.specs.Prelude.{◌≡◌, ℕ, ◌+◌, ◌-◌, ◌<◌, ◌≤◌, ◌&&◌, Bool, List, [], ◌∷◌, ◌++◌, length, map, take, drop, sum, ℤ, slice_get, slice_index, nat_lt, nat_le, nat_eq, if◌then◌else◌, flat_map, unwrap_or, Some, All, IsTrue}
use Rattle.std.specs.List.{zip, enumerate_from, Any, IsDistinct}
use Rattle.std.specs.Set.{is_member}
use Rattle.std.specs.Str.{bytes_eq}
use Rattle.definitions.specs.declared.Cell.{Cell}
use Rattle.definitions.specs.declared.Give.{Give}
use Rattle.definitions.specs.declared.Piece.{Piece}
use Rattle.definitions.specs.declared.Prices.{Prices}
use Rattle.definitions.specs.Sets.{cell_of, holds, row_cells, cells_in, FamilyValue, IsFamily, SetValue}

-- a fraction, which need not be in lowest terms
pub record Ratio : Type 0 where
  pub num : ℕ
  pub den : ℕ

-- shares as they are given: names of agents and of columns, and one entry in lowest terms for each cell, row by row
pub record SharesValue : Type 0 where
  pub agents : List (List ℕ)
  pub objects : List (List ℕ)
  pub entries : List Ratio

-- a problem: the names, a list of columns and a demand for each agent, and a family of sets, of which the first are stated
pub record ProblemValue : Type 0 where
  pub agents : List (List ℕ)
  pub objects : List (List ℕ)
  pub lists : List (List ℕ)
  pub demands : List ℕ
  pub family : FamilyValue
  pub stated : ℕ

-- the number of columns; that of `none` is the last
abbrev pub column_count : ProblemValue → ℕ
column_count p = length p.objects + 1

-- agent i's list
abbrev pub list_at : ProblemValue → ℕ → List ℕ
list_at p i = unwrap_or (slice_get p.lists i) []

-- agent i's demand
abbrev pub demand_at : ProblemValue → ℕ → ℕ
demand_at p i = slice_index p.demands i

-- the sets that the quotas state; the others are the agents' rows
abbrev pub stated_sets : ProblemValue → List SetValue
stated_sets p = take p.stated p.family.sets

-- the cells of all lists, agent by agent, in list order
abbrev pub listed_cells : ProblemValue → List Cell
listed_cells p = flat_map (λ w. map (cell_of w.0) w.1) (enumerate_from 0 p.lists)

-- a capped cell: of an agent of demand 2 or more, and an object of its list other than `none`
abbrev pub is_capped : ProblemValue → Cell → Bool
is_capped p c = nat_le 2 (demand_at p c.agent) && (is_member nat_eq (list_at p c.agent) c.object && nat_lt c.object (length p.objects))

-- a lawful list: distinct columns, with that of `none` last
pub record IsListUpTo (none : ℕ) (list : List ℕ) : Type 0 where
  pub apart : IsDistinct nat_eq list
  pub known : All (λ a. a ≤ none) list
  pub last : slice_get list (length list - 1) ≡ Some none

-- a lawful stated set: of side 2, with floor 0 and no cell of `none`
pub record IsStatedSet (none : ℕ) (s : SetValue) : Type 0 where
  pub side : s.side ≡ 2
  pub floor : s.floor ≡ 0
  pub objects : All (λ c. c.object < none) s.cells

-- the set holds the whole column a
abbrev pub HoldsColumn : ℕ → ℕ → SetValue → Type 0
HoldsColumn agents a s = (i : ℕ) → i < agents → IsTrue (holds s.cells (cell_of i a))

-- the rows of all agents as sets of side 1, each with its agent's demand as floor and ceiling
abbrev pub row_sets : ℕ → List ℕ → List SetValue
row_sets columns demands = map (λ w. record { side = 1; floor = w.1; ceiling = w.1; cells = row_cells columns w.0 }) (enumerate_from 0 demands)

-- a lawful problem: within the limits, with lawful lists and demands; its family has the stated sets and then the agents' rows,
-- and each object has a stated set that holds its whole column
pub record IsProblem (p : ProblemValue) : Type 0 where
  pub agents_some : 1 ≤ length p.agents
  pub agents_limit : length p.agents ≤ 1000
  pub agents_apart : IsDistinct bytes_eq p.agents
  pub objects_limit : length p.objects ≤ 200
  pub objects_apart : IsDistinct bytes_eq p.objects
  pub lists_many : length p.lists ≡ length p.agents
  pub lists : All (IsListUpTo (length p.objects)) p.lists
  pub demands_many : length p.demands ≡ length p.agents
  pub demands : All (λ d. 1 ≤ d) p.demands
  pub demands_limit : sum p.demands ≤ 1000
  pub family : IsFamily p.family
  pub family_agents : p.family.agents ≡ length p.agents
  pub family_columns : p.family.columns ≡ column_count p
  pub stated_limit : p.stated ≤ 1000
  pub stated_cells : cells_in (stated_sets p) ≤ 1000000
  pub stated_lawful : All (IsStatedSet (length p.objects)) (stated_sets p)
  pub columns_stated : (a : ℕ) → a < length p.objects → Any (HoldsColumn (length p.agents) a) (stated_sets p)
  pub rows : drop p.stated p.family.sets ≡ row_sets (column_count p) p.demands

-- a limited set: at most `ceiling` of its cells in all
pub record Limit : Type 0 where
  pub ceiling : ℕ
  pub cells : List Cell

-- one who eats: how fast, and in which order
pub record Agent : Type 0 where
  pub demand : ℕ
  pub list : List ℕ

-- all that eating depends on
pub record Market : Type 0 where
  pub agents : List Agent
  pub limits : List Limit

-- the columns before the last
abbrev pub but_last : List ℕ → List ℕ
but_last [] = []
but_last (a ∷ []) = []
but_last (a ∷ b ∷ list) = a ∷ but_last (b ∷ list)

-- for each capped cell of the agents from i on a limit of 1, by agent and then place on the list, whose last column is `none`
unfoldable pub capped_limits : ℕ → List Agent → List Limit
capped_limits i [] = []
capped_limits i (w ∷ agents) =
    (if nat_le 2 w.demand then map (λ a. record { ceiling = 1; cells = cell_of i a ∷ [] }) (but_last w.list) else []) ++ capped_limits (i + 1) agents

-- the agents with their demands and lists
abbrev pub market_agents : List ℕ → List (List ℕ) → List Agent
market_agents demands lists = map (λ w. record { demand = w.0; list = w.1 }) (zip demands lists)

-- the market of these agents and stated sets: its limits are the stated sets by number, and then one for each capped cell
abbrev pub market_from : List ℕ → List (List ℕ) → List SetValue → Market
market_from demands lists stated = record {
  agents = market_agents demands lists;
  limits = map (λ s. record { ceiling = s.ceiling; cells = s.cells }) stated ++ capped_limits 0 (market_agents demands lists);
}

-- the market of a problem
abbrev pub market_of : ProblemValue → Market
market_of p = market_from p.demands p.lists (stated_sets p)

-- the limits of a problem: the stated sets, and a limit of 1 on one cell for each capped cell
abbrev pub limits_of : ProblemValue → List Limit
limits_of p = (market_of p).limits

-- a price for each stated set, and for each agent the worths of the places of its list
pub record PricesValue : Type 0 where
  pub price : List ℕ
  pub worth : List (List ℤ)

-- what contracts see of prices
abbrev pub prices_value : Prices → PricesValue
prices_value y = record { price = y.price.items; worth = map (λ w. w.items) y.worth.items }

-- agent i's worths, in list order
abbrev pub worths_of : PricesValue → ℕ → List ℤ
worths_of y i = unwrap_or (slice_get y.worth i) []

-- a whole assignment with its weight, as what it gives
pub record PieceValue : Type 0 where
  pub weight : ℕ
  pub gives : List Give

-- what contracts see of a piece
abbrev pub piece_value : Piece → PieceValue
piece_value p = record { weight = p.weight; gives = p.gives.items }
