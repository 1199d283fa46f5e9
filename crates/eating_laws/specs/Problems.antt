-- What the laws say of the assignments of a lawful problem.
use Rattle.std.specs.Prelude.{ℕ, ◌<◌, List, length}
use Rattle.definitions.specs.Sets.{ScaledValue, units_of, IsFeasible}
use Rattle.definitions.specs.Values.{ProblemValue, IsProblem, market_of, column_count}
use Rattle.definitions.specs.Eating.{IsAssignmentOf}
use Rattle.definitions.specs.Assignment.{IsRandomAssignment}
use Rattle.definitions.specs.Fairness.{IsAlike, Envies}

-- in the assignment of a table no agent envies one who is alike; the table need not be the eating table
abbrev pub NoEnvyAmongAlike : Type 0
NoEnvyAmongAlike = (p : ProblemValue) (x : ScaledValue) (e : List ℕ) (i j : ℕ)
    → IsProblem p → IsAssignmentOf (column_count p) (market_of p) x.denominator e x
    → i < length p.agents → j < length p.agents → IsAlike p i j → Envies p (units_of x) i j → ⊥

-- a random assignment of a lawful problem lies within floor and ceiling at each set of the problem's family: the stated
-- sets and the agents' rows
abbrev pub RandomAssignmentsAreFeasible : Type 0
RandomAssignmentsAreFeasible = (p : ProblemValue) (x : ScaledValue)
    → IsProblem p → IsRandomAssignment p x.denominator (units_of x) → IsFeasible p.family x
