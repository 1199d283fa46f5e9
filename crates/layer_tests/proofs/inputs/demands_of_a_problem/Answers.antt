use Rattle.std.proofs.Common.{◌≡◌, ◌∙◌, ap}
use Rattle.definitions.specs.Values.{ProblemValue}
use Rattle.table_text.proofs.TextFacts.{IsTextOf-unique}
use Rattle.alloc_input.specs.Objects.{declared}
use Rattle.layer_tests.proofs.inputs.demands_of_a_problem.Goals as goal

pub read_demands-requires-clause-suits : goal.read_demands-requires-clause-suits
read_demands-requires-clause-suits g c =
    let lawful = c.in_ok-problem.ensures.lawful in
    let value = c.in_ok-problem.ensures.value in
    let objects : c.in_ok-problem.problem.objects ≡ declared value.1 = ap (λ (p : ProblemValue). p.objects) value.4.1 in
    record {
      some = rw c.agents.ensures.value lawful.agents_some;
      many = rw c.agents.ensures.value lawful.agents_limit;
      apart = c.in_ok-need_plain.ensures;
      due = λ rows t. c.objects-objects.ensures.value ∙ objects ∙ ap declared (IsTextOf-unique c.as_slice-quotas.result.now value.1 rows value.3 t);
    }
