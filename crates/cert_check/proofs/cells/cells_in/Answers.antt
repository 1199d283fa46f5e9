use Rattle.std.proofs.Common.{sym, subst}
use Rattle.cert_check.specs.PieceFaults.{AreRoundedCells, pieces_value}
use Rattle.cert_check.proofs.PieceCounts.{gives_lawful}
use Rattle.cert_check.proofs.WholeCells.{cells_silent}
use Rattle.cert_check.proofs.cells.cells_in.Goals as goal

pub are_gives_rounded-requires-clause-gives : goal.are_gives_rounded-requires-clause-gives
are_gives_rounded-requires-clause-gives c = gives_lawful c.args.x.now (pieces_value c.args.pieces.now) c.args.piece c.gives_of.result.now c.requires.given.pieces c.requires.piece c.gives_of.ensures

pub returns-then-are_gives_rounded : goal.returns-then-are_gives_rounded
returns-then-are_gives_rounded c = sym (cells_silent c.args.x.now (pieces_value c.args.pieces.now) c.args.piece (subst (AreRoundedCells c.args.x.now) c.gives_of.ensures (c.are_gives_rounded.ensures c.if-are_gives_rounded.true)))
