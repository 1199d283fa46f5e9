-- What a problem is made of: names, lists, stated sets and demands.
use Rattle.std.specs.Prelude.{◌≡◌, ℕ, ◌+◌, ◌<◌, ◌≤◌, ◌++◌, List, length, sum, All}
use Rattle.std.specs.List.{Any}
use Rattle.definitions.specs.Sets.{FamilyValue, cells_in}
use Rattle.definitions.specs.Values.{ProblemValue, IsListUpTo, IsStatedSet, HoldsColumn, row_sets}

-- within the limits: a lawful list for each agent, and lawful stated sets, of which one holds the whole column of each object
pub record AreProblemParts (agents objects : List (List ℕ)) (lists : List (List ℕ)) (stated : FamilyValue) : Type 0 where
  pub agents_some : 1 ≤ length agents
  pub agents_limit : length agents ≤ 1000
  pub objects_limit : length objects ≤ 200
  pub lists_many : length lists ≡ length agents
  pub lawful_lists : All (IsListUpTo (length objects)) lists
  pub stated_agents : stated.agents ≡ length agents
  pub stated_columns : stated.columns ≡ length objects + 1
  pub stated_limit : length stated.sets ≤ 1000
  pub stated_cells : cells_in stated.sets ≤ 1000000
  pub stated_lawful : All (IsStatedSet (length objects)) stated.sets
  pub columns_stated : (a : ℕ) → a < length objects → Any (HoldsColumn (length agents) a) stated.sets

-- a demand of at least 1 for each of so many agents, at most 1,000 in all
pub record AreDemands (agents : ℕ) (demands : List ℕ) : Type 0 where
  pub many : length demands ≡ agents
  pub each : All (λ d. 1 ≤ d) demands
  pub limit : sum demands ≤ 1000

-- the problem with these parts: after the stated sets its family has the agents' rows
abbrev pub problem_from : List (List ℕ) → List (List ℕ) → List (List ℕ) → List ℕ → FamilyValue → ProblemValue
problem_from agents objects lists demands stated = record {
  agents = agents;
  objects = objects;
  lists = lists;
  demands = demands;
  family = record stated { sets = stated.sets ++ row_sets (length objects + 1) demands };
  stated = length stated.sets;
}
