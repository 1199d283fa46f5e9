use Rattle.std.proofs.Common.{◌≡◌, ◌<◌, sym, ◌∙◌, None, arith}
use Rattle.definitions.proofs.FirstFaults.{first-passes, first-found}
use Rattle.cert_check.specs.PieceFaults.{cell_look, pieces_value}
use Rattle.cert_check.proofs.cells.cells_in_row.Goals as goal

pub returns-in-Some : goal.returns-in-Some
returns-in-Some c =
    let within : c.loop-object.object < c.args.x.now.columns = omega arith in
    sym (first-found (cell_look c.args.x.now (pieces_value c.args.pieces.now) c.args.piece c.args.agent) c.loop-object.object c.args.x.now.columns c.in-Some.fault within (sym c.in-Some.ensures)) ∙ c.loop-object.invariant

pub loop-object-preserved : goal.loop-object-preserved
loop-object-preserved c =
    let none : cell_look c.args.x.now (pieces_value c.args.pieces.now) c.args.piece c.args.agent c.loop-object.object ≡ None = sym c.cell_at.ensures ∙ c.in_default.is in
    let within : c.loop-object.object < c.args.x.now.columns = omega arith in
    sym (first-passes (cell_look c.args.x.now (pieces_value c.args.pieces.now) c.args.piece c.args.agent) c.loop-object.object c.args.x.now.columns within none) ∙ c.loop-object.invariant
