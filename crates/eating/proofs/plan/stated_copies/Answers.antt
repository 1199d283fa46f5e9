use Rattle.std.proofs.Common.{arith, rules, ◌≡◌, ◌-◌, ◌∙◌, ◌∷◌, ◌++◌, [], ap, length, Some}
use Rattle.std.specs.Prelude.{slice_get}
use Rattle.definitions.specs.Sets.{FamilyValue}
use Rattle.definitions.proofs.Families.{sets_of_problem}
use Rattle.eating.proofs.Counts.{set_more}
use Rattle.eating.proofs.plan.stated_copies.Goals as goal

pub unwrap-requires : goal.unwrap-requires
unwrap-requires c =
    let problem = c.args.problem.now in
    let many = sets_of_problem problem c.family.ensures.lawful in
    let same = ap (λ (f : FamilyValue). length f.sets) c.family.ensures.value in
    c.get.ensures.found.1 (omega arith, omega (arith, many, same, c.loop-set-test.true, c.stated-set-end.ensures.value))

pub loop-set-preserved : goal.loop-set-preserved
loop-set-preserved c =
    let here : slice_get c.args.problem.now.family.sets (c.loop-set.set - 1) ≡ Some c.unwrap.result.now = search (rules, c.get.ensures.value, c.unwrap.ensures, c.family.ensures.value) in
    c.in_ok-push.ensures.items ∙ ap (λ x. c.loop-set.sets.items ++ x ∷ []) c.in_ok-copy_of.ensures
    ∙ set_more c.args.problem.now.family.sets c.loop-set.set c.unwrap.result.now (omega arith) here c.loop-set.sets.items c.loop-set.invariant
