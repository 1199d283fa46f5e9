use Rattle.std.proofs.Common.{◌∙◌, [], Some, sym, ap}
use Rattle.alloc_input.specs.Quotas.{check_in}
use Rattle.alloc_input.specs.Stated.{setting_of}
use Rattle.alloc_input.specs.Reading.{held}
use Rattle.alloc_input.proofs.Steps.{then_checks, in_limits, in_stated}
use Rattle.alloc_input.proofs.quotas.sets.take_in.Goals as goal

pub returns-clause-checked : goal.returns-clause-checked
unfolding check_in
returns-clause-checked c =
    let said = c.in_ok-said.ensures c.args.solve in
    let is = said.1 in
    let g = setting_of c.args.agents.now c.args.objects.now c.args.solve in
    let agents = is.agents ∙ ap (λ xs. Some xs) (sym c.deref.ensures.value) in
    let columns = is.columns ∙ ap (λ xs. Some xs) (sym c.deref-2.ensures.value) in
    then_checks _ _ _ _ _ _ said.0
    (in_limits g (held c.args.state.now) c.args.row.now _ _ _ _ _ [] is.place agents columns c.len.ensures.value c.len-2.ensures.value)
    (λ x h. in_stated g (held c.args.state.now) c.args.row.now _ _ _ _ _ _ is.place agents columns c.len.ensures.value c.len-2.ensures.value h)
    c.grow.ensures.checked
