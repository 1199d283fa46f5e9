use Rattle.std.proofs.Common.{◌∙◌, [], refl, ap}
use Rattle.alloc_input.specs.Quotas.{check_row}
use Rattle.alloc_input.specs.Stated.{setting_of}
use Rattle.alloc_input.specs.Cells.{numbers_to}
use Rattle.alloc_input.specs.Reading.{held}
use Rattle.alloc_input.proofs.Steps.{then_checks, row_limits, row_stated}
use Rattle.alloc_input.proofs.quotas.agents.take_row.Goals as goal

pub returns-clause-checked : goal.returns-clause-checked
unfolding check_row
returns-clause-checked c =
    let said = c.in_ok-said.ensures.checked c.args.objects.now c.args.solve in
    let is = said.1 in
    let g = setting_of c.args.agents.now c.args.objects.now c.args.solve in
    let name = c.in_ok-add_name.ensures ∙ rw is.named refl in
    let all = c.deref.ensures.value ∙ c.in_ok-all.ensures ∙ ap (λ n. numbers_to n) c.len.ensures.value in
    then_checks _ _ _ _ _ _ said.0
    (row_limits g (held c.args.state.now) c.args.row.now _ _ _ _ _ _ [] [] is.known is.floor is.ceiling c.len-2.ensures.value c.len-3.ensures.value all)
    (λ x h. row_stated g (held c.args.state.now) c.args.row.now _ _ _ _ _ _ _ _ is.known is.floor is.ceiling c.len-2.ensures.value c.len-3.ensures.value all name h)
    c.push_rectangle.ensures.checked
