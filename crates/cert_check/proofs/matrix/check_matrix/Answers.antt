use Rattle.std.proofs.Common.{ap, ◌∙◌}
use Rattle.cert_check.specs.Verdicts.{verdict_of}
use Rattle.cert_check.proofs.MatrixPass.{matrix_verdict}
use Rattle.cert_check.proofs.matrix.check_matrix.Goals as goal

pub returns-clause-pass : goal.returns-clause-pass
returns-clause-pass c = matrix_verdict c.args.due.now c.args.found.now c.first_fault.ensures.due c.first_fault.ensures.found c.requires c.of.result (c.of.ensures ∙ ap verdict_of c.first_fault.ensures.value)
