use Rattle.bounded_flow.proofs.Shown.{shown_lawful}
use Rattle.bounded_flow.proofs.net.Net.agents.Goals as goal

pub returns-clause-lawful : goal.returns-clause-lawful
returns-clause-lawful c = shown_lawful c.self.inside c.args.self.now c.self.view_is c.self.invariant.web
