use Rattle.std.proofs.Common.{◌∙◌}
use Rattle.eating_laws.proofs.Assignment.{eating_assigns}
use Rattle.eating_laws.proofs.Limits.{agent_count}
use Rattle.layer_tests.proofs.fairness.guarded_pieces_of_what_is_eaten.Goals as goal

pub guarded_pieces-requires-clause-agents : goal.guarded_pieces-requires-clause-agents
guarded_pieces-requires-clause-agents g c =
    let by = c.in_ok-eaten.ensures.eaten.1 in
    rw c.shares.ensures.value (by.shares.agents ∙ agent_count c.in_ok-problem.problem c.in_ok-problem.ensures.lawful)

pub guarded_pieces-requires-clause-columns : goal.guarded_pieces-requires-clause-columns
guarded_pieces-requires-clause-columns g c =
    let by = c.in_ok-eaten.ensures.eaten.1 in
    rw c.shares.ensures.value by.shares.columns

pub guarded_pieces-requires-clause-assignment : goal.guarded_pieces-requires-clause-assignment
guarded_pieces-requires-clause-assignment g c =
    let eaten = c.in_ok-eaten.ensures.eaten in
    rw c.shares.ensures.value
    (eating_assigns c.in_ok-problem.problem c.in_ok-eaten.eaten.shares eaten.0 c.in_ok-problem.ensures.lawful eaten.1.table eaten.1.shares)

pub guarded_pieces-requires-clause-apart : goal.guarded_pieces-requires-clause-apart
guarded_pieces-requires-clause-apart g c =
    let trees = rw c.family.ensures.value at c.in_ok-trees.ensures.trees in
    trees.apart.1
