-- The parts are lemmas.
use Rattle.definitions.proofs.Capped.{limits_listed, capped_distinct, own_limit, capped_from_limit}
use Rattle.definitions.proofs.laws.limits_of_a_problem.Goals as goal

pub returns : goal.returns
returns g p h = (limits_listed p h, capped_distinct p h, λ c. (own_limit p h c, capped_from_limit p h c))
