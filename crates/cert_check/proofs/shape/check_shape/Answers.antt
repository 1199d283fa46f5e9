use Rattle.std.proofs.Common.{ℕ, length, map, Vec, Global, ap, ◌∙◌}
use Rattle.cert_check.specs.Verdicts.{verdict_of}
use Rattle.cert_check.proofs.ShapePass.{shape_verdict}
use Rattle.cert_check.proofs.shape.check_shape.Goals as goal

pub returns-clause-pass : goal.returns-clause-pass
returns-clause-pass c = shape_verdict c.args.problem.now c.args.agents.now c.args.columns.now (map (λ (list : Vec ℕ Global). list.items) c.args.lists.now) (length c.args.prices.now.price.items) c.of.result (c.of.ensures ∙ ap verdict_of c.first_fault.ensures)
