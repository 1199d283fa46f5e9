use Rattle.std.proofs.Common.{◌∙◌, ◌++◌, ◌∷◌, [], refl, ap}
use Rattle.alloc_input.specs.Stated.{setting_of}
use Rattle.alloc_input.specs.Quotas.{check_set}
use Rattle.alloc_input.specs.Reading.{held}
use Rattle.alloc_input.proofs.Steps.{then_checks, set_limits, set_stated}
use Rattle.alloc_input.proofs.quotas.sets.take_set.Goals as goal

pub returns-clause-checked : goal.returns-clause-checked
unfolding check_set
returns-clause-checked c =
    let said = c.in_ok-said.ensures.checked c.args.agents.now c.args.objects.now in
    let is = said.1 in
    let g = setting_of c.args.agents.now c.args.objects.now c.args.solve in
    let name = c.in_ok-add_name.ensures ∙ rw is.named refl in
    let places = c.in_ok-push.ensures.items ∙ ap (λ n. c.args.state.now.places.items ++ n ∷ []) c.next_place-place.ensures in
    then_checks _ _ _ _ _ _ said.0
    (set_limits g (held c.args.state.now) c.args.row.now _ _ _ [] [] [] is.side is.floor is.ceiling)
    (λ x h. set_stated g (held c.args.state.now) c.args.row.now _ _ _ _ _ _ is.side is.floor is.ceiling name places h)
    c.push_empty.ensures.checked
