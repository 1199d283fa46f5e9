use Rattle.std.proofs.Common.{map}
use Rattle.quota_sets.proofs.ProblemLemmas.{problem_is_lawful}
use Rattle.quota_sets.proofs.problem.Problem.with_demands.Goals as goal

pub invariant_of-result : goal.invariant_of-result
invariant_of-result c =
    problem_is_lawful c.args.agents c.args.objects (map (λ list. list.items) c.args.lists.items) c.args.demands.items c.args.stated c.add_rows.new.family c.len-stated_count.result
    c.len.ensures.lawful c.len-2.ensures.lawful c.requires.parts c.requires.demands
    (rw (c.len-2.ensures.value, c.deref.ensures.value) at c.in_ok-add_rows.ensures.added) c.len-stated_count.ensures.value c.in_ok-add_rows.ensures.lawful
