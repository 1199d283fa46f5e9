use Rattle.std.proofs.Common.{◌≡◌, length, ap, arith}
use Rattle.definitions.specs.Sets.{FamilyValue}
use Rattle.definitions.proofs.Families.{sets_of_problem}
use Rattle.alloc_tables.proofs.SetsLemmas.{sets_text-parts}
use Rattle.alloc_tables.proofs.sets.sets_text.Goals as goal

pub put_sets-requires-clause-within : goal.put_sets-requires-clause-within
put_sets-requires-clause-within c =
    let whole = sets_of_problem c.args.problem.now c.stated-stated.ensures.lawful in
    let same : length c.family.result.now.sets ≡ length c.args.problem.now.family.sets = ap (λ (f : FamilyValue). length f.sets) c.family.ensures.value in
    omega (arith, whole, same, c.stated-stated.ensures.value)

pub returns : goal.returns
returns c =
    sets_text-parts c.args.problem.now c.family.result.now c.args.trees.now c.stated-stated.result c.new-text.result.items c.put_sets.new.into.items c.put_end.new.into.items c.family.ensures.value c.stated-stated.ensures.value c.new-text.ensures.items c.in_ok-put_sets.ensures c.in_ok-put_end.ensures.ok
