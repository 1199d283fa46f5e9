use Rattle.std.proofs.Common.{◌∙◌, ap}
use Rattle.bounded_flow.specs.Edges.{rest_of}
use Rattle.bounded_flow.proofs.Shown.{shown_lawful, shown_set_rest}
use Rattle.bounded_flow.proofs.net.Net.set_rest.Goals as goal

pub returns-clause-value : goal.returns-clause-value
returns-clause-value c =
    c.rest.ensures ∙ ap (rest_of c.self.inside.left) c.index.ensures
    ∙ shown_set_rest c.self.inside c.args.self.now c.args.set c.index.result.now c.self.view_is c.self.invariant.web c.requires.0 c.requires.1

pub returns-clause-lawful : goal.returns-clause-lawful
returns-clause-lawful c = shown_lawful c.self.inside c.args.self.now c.self.view_is c.self.invariant.web
