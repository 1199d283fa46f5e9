use Rattle.std.proofs.Common.{ap, ◌∙◌}
use Rattle.cert_check.specs.Verdicts.{verdict_of}
use Rattle.cert_check.specs.PieceFaults.{pieces_value}
use Rattle.cert_check.proofs.PiecePass.{pieces_verdict, pieces_named}
use Rattle.cert_check.proofs.pieces.check_pieces_in.Goals as goal

pub returns-clause-pass : goal.returns-clause-pass
returns-clause-pass c = pieces_verdict c.args.family.now c.args.x.now (pieces_value c.args.pieces.now) c.first_fault.ensures.family c.first_fault.ensures.lawful c.requires.matrix c.requires.pieces c.of.result (c.of.ensures ∙ ap verdict_of c.first_fault.ensures.value)

pub returns-clause-named : goal.returns-clause-named
returns-clause-named c = pieces_named c.args.family.now c.args.x.now (pieces_value c.args.pieces.now) c.first_fault.ensures.family c.first_fault.ensures.lawful c.requires.matrix c.requires.pieces c.of.result (c.of.ensures ∙ ap verdict_of c.first_fault.ensures.value)
