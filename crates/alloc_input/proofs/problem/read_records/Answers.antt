use Rattle.alloc_input.proofs.ProblemParts.{problem-parts, problem-demands}
use Rattle.alloc_input.proofs.problem.read_records.Goals as goal

pub with_demands-requires-clause-parts : goal.with_demands-requires-clause-parts
with_demands-requires-clause-parts c =
    let quotas = c.in_ok-quotas.ensures in
    problem-parts _ _ _ c.in_ok-objects.ensures c.in_ok-prefs.ensures.lawful.many quotas.0 _ _ c.in_ok-prefs.ensures.lawful quotas.1

pub with_demands-requires-clause-demands : goal.with_demands-requires-clause-demands
with_demands-requires-clause-demands c =
    let quotas = c.in_ok-quotas.ensures in
    problem-demands _ _ _ c.in_ok-objects.ensures c.in_ok-prefs.ensures.lawful.many quotas.0 _ quotas.2
