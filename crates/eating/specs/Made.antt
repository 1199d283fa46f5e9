-- What an eater has before it eats.
use Rattle.std.specs.Prelude.{◌≡◌, ℕ, ◌*◌, List, length, map, slice_index}
use Rattle.definitions.specs.Sets.{SetValue}
use Rattle.definitions.specs.Eaters.{EaterValue, market_of_eater}
use Rattle.eating.specs.declared.progress.Progress.{Progress}
use Rattle.eating.specs.Eaters.{IsKept}
use Rattle.eating.specs.Plan.{LineValue, AreLinesOf}
use Rattle.eating.specs.Runs.{IsStart}

-- what an eater with so many columns, these stated sets and these lines shows
abbrev pub eater_value : ℕ → List SetValue → List LineValue → EaterValue
eater_value columns stated lines = record {
  agents = length lines;
  columns = columns;
  lists = map (λ line. line.columns) lines;
  stated = stated;
  demands = map (λ line. line.demand) lines;
}

-- all that eating begins with, in what is kept of a problem: lines, nothing eaten yet, and room for what is eaten
pub record IsMade (v : EaterValue) (lines : List LineValue) (progress : Progress) (units caps : List ℕ) : Type 0 where
  pub kept : IsKept v
  pub lines_of : AreLinesOf (market_of_eater v) lines
  pub start : IsStart (market_of_eater v) (length lines) progress
  pub units_many : length units ≡ v.agents * v.columns
  pub units_zero : (n : ℕ) → slice_index units n ≡ 0
  pub caps_many : length caps ≡ v.agents * v.columns
