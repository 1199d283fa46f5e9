use Rattle.std.proofs.Common.{◌∙◌, [], refl}
use Rattle.alloc_input.specs.Quotas.{check_demand}
use Rattle.alloc_input.specs.Stated.{setting_of}
use Rattle.alloc_input.specs.Reading.{held}
use Rattle.alloc_input.proofs.Steps.{follows, demand_limits, demand_stated}
use Rattle.alloc_input.proofs.Stops.{stopped-on}
use Rattle.alloc_input.proofs.quotas.agents.take_demand.Goals as goal

pub returns-in_err-set_demand-clause-checked : goal.returns-in_err-set_demand-clause-checked
unfolding check_demand
returns-in_err-set_demand-clause-checked c =
    let said = c.in_ok-said.ensures.checked c.args.objects.now c.args.solve in
    let g = setting_of c.args.agents.now c.args.objects.now c.args.solve in
    let limits = demand_limits g (held c.args.state.now) c.args.row.now _ _ [] [] said.1.known said.1.demand in
    stopped-on _ _ _ _ c.from_residual-in_err-set_demand.ensures.1 (follows _ _ _ _ said.0 limits c.in_err-set_demand.ensures)

pub returns-clause-checked : goal.returns-clause-checked
unfolding check_demand
returns-clause-checked c =
    let said = c.in_ok-said.ensures.checked c.args.objects.now c.args.solve in
    let g = setting_of c.args.agents.now c.args.objects.now c.args.solve in
    let limits = demand_limits g (held c.args.state.now) c.args.row.now _ _ [] [] said.1.known said.1.demand in
    let name = c.in_ok-add_name.ensures ∙ rw said.1.named refl in
    let set = c.in_ok-set_demand.ensures in
    (follows _ _ _ _ said.0 limits set.0, demand_stated g (held c.args.state.now) c.args.row.now _ _ _ _ said.1.known said.1.demand name set.1)
