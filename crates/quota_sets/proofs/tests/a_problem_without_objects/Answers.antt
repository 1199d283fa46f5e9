use Rattle.std.proofs.Common.{map}
use Rattle.quota_sets.proofs.TestLemmas.{smallest_parts}
use Rattle.quota_sets.proofs.tests.a_problem_without_objects.Goals as goal

pub new-requires-3 : goal.new-requires-3
new-requires-3 g c =
    smallest_parts c.in_ok-agents.agents c.new.result (map (λ list. list.items) c.in_ok-lists.lists.items) c.new-2.result
    c.in_ok-agents.ensures c.new.ensures c.in_ok-lists.ensures c.new-2.ensures
