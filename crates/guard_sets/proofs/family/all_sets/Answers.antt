use Rattle.std.proofs.Common.{◌≡◌, ◌+◌, ◌<◌, ◌∙◌, ◌++◌, length, ap, arith}
use Rattle.std.specs.Prelude.{flat_map}
use Rattle.std.specs.List.{range_with_len}
use Rattle.definitions.specs.Sets.{FamilyValue, cells_in}
use Rattle.guard_sets.specs.Guard.{fronts_of}
use Rattle.guard_sets.proofs.Rooms.{agent_sets, agent_cells, agent_more, family_more}
use Rattle.guard_sets.proofs.family.all_sets.Goals as goal

pub add_fronts-requires-clause-sets : goal.add_fronts-requires-clause-sets
add_fronts-requires-clause-sets c =
    let within : c.loop-agent.agent < length c.args.problem.now.agents = omega (arith, ap length c.agents.ensures.value) in
    omega (arith, ap (λ (f : FamilyValue). length f.sets) c.loop-agent.invariant, agent_sets c.args.problem.now c.args.x.now c.loop-agent.agent c.agents.ensures.lawful c.requires.fits within)

pub add_fronts-requires-clause-cells : goal.add_fronts-requires-clause-cells
add_fronts-requires-clause-cells c =
    let within : c.loop-agent.agent < length c.args.problem.now.agents = omega (arith, ap length c.agents.ensures.value) in
    omega (arith, ap (λ (f : FamilyValue). cells_in f.sets) c.loop-agent.invariant, agent_cells c.args.problem.now c.args.x.now c.loop-agent.agent c.agents.ensures.lawful c.requires.fits within)

pub loop-agent-preserved : goal.loop-agent-preserved
loop-agent-preserved c =
    c.in_ok-add_fronts.ensures
    ∙ family_more c.args.problem.now.family c.loop-agent.family (c.args.problem.now.family.sets ++ flat_map (fronts_of c.args.problem.now c.args.x.now) (range_with_len 0 c.loop-agent.agent)) (fronts_of c.args.problem.now c.args.x.now c.loop-agent.agent)
    (c.args.problem.now.family.sets ++ flat_map (fronts_of c.args.problem.now c.args.x.now) (range_with_len 0 (c.loop-agent.agent + 1))) c.loop-agent.invariant
    (agent_more c.args.problem.now c.args.x.now c.loop-agent.agent)
