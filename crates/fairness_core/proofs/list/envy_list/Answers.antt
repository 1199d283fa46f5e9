use Rattle.std.proofs.Common.{◌≡◌, ◌∙◌, length, ap, arith}
use Rattle.definitions.specs.Sets.{units_of}
use Rattle.fairness_core.proofs.Entries.{rows_more, rows_all, all_each, none_alike}
use Rattle.fairness_core.proofs.list.envy_list.Goals as goal

pub loop-from-preserved : goal.loop-from-preserved
loop-from-preserved c = c.in_ok-add_envies.ensures ∙ rows_more c.args.problem.now (units_of c.args.x.now) c.loop-from.from c.loop-from.list.items c.loop-from.invariant

pub returns-clause-each : goal.returns-clause-each
returns-clause-each c =
    let ends : c.loop-from.from ≡ length c.args.problem.now.agents = omega (arith, ap length c.agents.ensures.value) in
    all_each c.args.problem.now (units_of c.args.x.now) c.loop-from.list.items (rows_all c.args.problem.now (units_of c.args.x.now) c.loop-from.from c.loop-from.list.items c.loop-from.invariant ends)

pub returns-clause-none_alike : goal.returns-clause-none_alike
returns-clause-none_alike c =
    let ends : c.loop-from.from ≡ length c.args.problem.now.agents = omega (arith, ap length c.agents.ensures.value) in
    none_alike c.args.problem.now c.args.x.now c.loop-from.list.items c.agents.ensures.lawful
    (all_each c.args.problem.now (units_of c.args.x.now) c.loop-from.list.items (rows_all c.args.problem.now (units_of c.args.x.now) c.loop-from.from c.loop-from.list.items c.loop-from.invariant ends))
