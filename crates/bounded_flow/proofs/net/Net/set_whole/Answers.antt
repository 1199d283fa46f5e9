use Rattle.std.proofs.Common.{◌∙◌, ap}
use Rattle.bounded_flow.specs.declared.edge.Edge.{Edge}
use Rattle.bounded_flow.proofs.Shown.{shown_lawful, shown_set_whole}
use Rattle.bounded_flow.proofs.net.Net.set_whole.Goals as goal

pub returns-clause-value : goal.returns-clause-value
returns-clause-value c =
    ap (λ (e : Edge). e.whole) c.index.ensures ∙ shown_set_whole c.self.inside c.args.self.now c.args.set c.index.result.now c.self.view_is c.self.invariant.web c.requires.0 c.requires.1

pub returns-clause-lawful : goal.returns-clause-lawful
returns-clause-lawful c = shown_lawful c.self.inside c.args.self.now c.self.view_is c.self.invariant.web
