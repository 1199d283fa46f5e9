use Rattle.std.proofs.Common.{ap, ◌∙◌}
use Rattle.definitions.specs.Values.{prices_value}
use Rattle.cert_check.specs.Verdicts.{verdict_of}
use Rattle.cert_check.proofs.PricePass.{verdict_passes, passed_worth, passed_undominated, passed_off_lists}
use Rattle.cert_check.proofs.prices.check_prices.Goals as goal

pub returns-clause-pass : goal.returns-clause-pass
returns-clause-pass c = verdict_passes c.args.problem.now c.args.x.now (prices_value c.args.prices.now) c.first_fault.ensures.problem c.first_fault.ensures.matrix c.requires.matrix c.requires.shape c.of.result (c.of.ensures ∙ ap verdict_of c.first_fault.ensures.value)

pub returns-clause-worth : goal.returns-clause-worth
returns-clause-worth c = passed_worth c.args.problem.now c.args.x.now (prices_value c.args.prices.now) c.first_fault.ensures.problem c.first_fault.ensures.matrix c.requires.matrix c.requires.shape c.of.result (c.of.ensures ∙ ap verdict_of c.first_fault.ensures.value)

pub returns-clause-undominated : goal.returns-clause-undominated
returns-clause-undominated c = passed_undominated c.args.problem.now c.args.x.now (prices_value c.args.prices.now) c.first_fault.ensures.problem c.first_fault.ensures.matrix c.requires.matrix c.requires.shape c.of.result (c.of.ensures ∙ ap verdict_of c.first_fault.ensures.value)

pub returns-clause-off_lists : goal.returns-clause-off_lists
returns-clause-off_lists c = passed_off_lists c.args.problem.now c.args.x.now (prices_value c.args.prices.now) c.first_fault.ensures.problem c.first_fault.ensures.matrix c.requires.matrix c.requires.shape c.of.result (c.of.ensures ∙ ap verdict_of c.first_fault.ensures.value)
