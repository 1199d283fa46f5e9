use Rattle.std.proofs.Common.{◌≡◌, take, drop}
use Rattle.lottery_file.specs.Checks.{check_agent_name}
use Rattle.definitions.proofs.Passed.{IsLawfulTo}
use Rattle.lottery_file.proofs.fields.read_agents.Given as goal

abbrev pub invariant-loop-j : goal.invariant-loop-j
invariant-loop-j l = IsLawfulTo check_agent_name (drop 1 l.row) l.j × (l.names ≡ take l.j (drop 1 l.row))
