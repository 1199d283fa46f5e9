use Rattle.std.proofs.Common.{sym}
use Rattle.cert_check.specs.PieceFaults.{pieces_value}
use Rattle.cert_check.proofs.PiecePass.{unlike_silent}
use Rattle.cert_check.proofs.same.same_from.Goals as goal

pub returns-then-unlike-first : goal.returns-then-unlike-first
returns-then-unlike-first c = sym (unlike_silent (pieces_value c.args.pieces.now) c.args.first (c.requires.unlike.unlike c.args.first c.if-unlike-first.true))
