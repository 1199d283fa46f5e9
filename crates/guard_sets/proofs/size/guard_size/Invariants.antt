use Rattle.std.proofs.Common.{◌≡◌, ◌+◌, ◌*◌, ◌≤◌}
use Rattle.guard_sets.specs.Guard.{sets_up_to, cells_up_to}
use Rattle.guard_sets.proofs.size.guard_size.Given as goal

-- both are the sizes up to this agent, and small
abbrev pub invariant-loop-agent : goal.invariant-loop-agent
invariant-loop-agent l = record {
  sets : l.sets ≡ sets_up_to l.problem l.agent;
  cells : l.cells ≡ cells_up_to l.problem l.agent;
  few_sets : l.sets ≤ 2000 + 201 * l.agent;
  few_cells : l.cells ≤ 1201000 + 20301 * l.agent;
}
