use Rattle.std.proofs.Common.{◌∙◌, Vec, Global, ap, sym}
use Rattle.definitions.specs.Sets.{units_of}
use Rattle.fairness_core.specs.declared.list.Envy.{Envy}
use Rattle.fairness_core.proofs.Entries.{envies_none, envies_some}
use Rattle.fairness_core.proofs.list.add_envies.Goals as goal
use Rattle.fairness_core.proofs.list.add_envies.Goals.{in-Some+in_ok-push, in_default}

pub loop-to-preserved : goal.loop-to-preserved
loop-to-preserved c = elim c.match-envy_point.branch [
  | in-Some+in_ok-push w ↦
      ap (λ (v : Vec Envy Global). v.items) w.list-is ∙ w.in_ok-push.ensures.items
      ∙ envies_some c.args.problem.now (units_of c.args.x.now) c.args.from c.loop-to.to w.in-Some.point c.args.list.now.items c.loop-to.list.items (sym w.in-Some.ensures.exact) c.loop-to.invariant
  | in_default w ↦
      ap (λ (v : Vec Envy Global). v.items) w.list-is
      ∙ envies_none c.args.problem.now (units_of c.args.x.now) c.args.from c.loop-to.to c.args.list.now.items c.loop-to.list.items (sym c.envy_point.ensures.exact ∙ w.in_default.is) c.loop-to.invariant
]
