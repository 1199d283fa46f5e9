use Rattle.cert_check.specs.PieceFaults.{pieces_value}
use Rattle.cert_check.proofs.PieceCounts.{gives_rise}
use Rattle.cert_check.proofs.cells.cell_at.Goals as goal

pub count_of-count-requires : goal.count_of-count-requires
count_of-count-requires c = gives_rise c.args.x.now (pieces_value c.args.pieces.now) c.args.piece c.gives_of.result.now c.requires.given.pieces c.requires.piece c.gives_of.ensures
