-- What contracts see of an eater: what it keeps of a problem, and what is eaten in that.
use Rattle.std.specs.Prelude.{◌≡◌, ℕ, List, length}
use Rattle.definitions.specs.Values.{ProblemValue, IsProblem, column_count, stated_sets}
use Rattle.definitions.specs.Eaters.{EaterValue, market_of_eater}
use Rattle.eating.specs.Answers.{IsTableOf}
use Rattle.eating.specs.Eaten.{EatenValue}

-- what is kept of a problem: how many agents and columns it has, its lists, its stated sets and its demands
abbrev pub kept_of : ProblemValue → EaterValue
kept_of p = record {
  agents = length p.agents;
  columns = column_count p;
  lists = p.lists;
  stated = stated_sets p;
  demands = p.demands;
}

-- it is kept of a lawful problem, and so meets all that a problem asks
pub record IsKept (v : EaterValue) : Type 0 where
  pub problem : ProblemValue
  pub lawful : IsProblem problem
  pub kept : v ≡ kept_of problem

-- x is what is eaten in what is kept: e is its eating table in lowest terms
abbrev pub IsEatenOf : EaterValue → EatenValue → Type 0
IsEatenOf v x = (e : List ℕ) × IsTableOf (market_of_eater v) v.agents v.columns (length v.stated) e x
