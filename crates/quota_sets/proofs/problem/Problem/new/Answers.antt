use Rattle.std.proofs.Common.{length}
use Rattle.quota_sets.proofs.ProblemLemmas.{ones_are_demands}
use Rattle.quota_sets.proofs.problem.Problem.new.Goals as goal

pub with_demands-requires-clause-demands : goal.with_demands-requires-clause-demands
with_demands-requires-clause-demands c =
    rw (c.in_ok-demands.ensures.items_if_clones_equal (λ y e. e), c.len.ensures.value) (ones_are_demands (length c.args.agents) c.requires.agents_limit)
