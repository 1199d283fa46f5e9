use Rattle.std.proofs.Common.{◌≡◌, ℕ, ◌+◌, length, take, Some}
use Rattle.std.specs.Prelude.{slice_get}
use Rattle.definitions.specs.Values.{Agent, limits_of, market_of}
use Rattle.eating.specs.Caps.{caps_before}
use Rattle.eating.specs.Plan.{LineValue, IsLine, IsLineOf}
use Rattle.eating.proofs.plan.lines_of.Given as goal

abbrev pub invariant-loop-agent : goal.invariant-loop-agent
invariant-loop-agent l = record {
  limits : l.limits ≡ l.problem.stated + caps_before (take l.agent (market_of l.problem).agents);
  many : length l.lines.items ≡ l.agent;
  each : (i : ℕ) (w : Agent) (line : LineValue) → slice_get (market_of l.problem).agents i ≡ Some w → slice_get l.lines.items i ≡ Some line → IsLineOf (market_of l.problem) i w line;
  lines : (i : ℕ) (line : LineValue) → slice_get l.lines.items i ≡ Some line → IsLine (length (limits_of l.problem)) line;
}
