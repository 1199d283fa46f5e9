use Rattle.std.proofs.Common.{◌≡◌, ◌<◌, length, sym, ◌∙◌, None, arith}
use Rattle.definitions.proofs.FirstFaults.{first-passes, first-found}
use Rattle.cert_check.specs.PieceFaults.{set_look, pieces_value}
use Rattle.cert_check.proofs.sets.sets_in.Goals as goal

pub returns-in-Some : goal.returns-in-Some
returns-in-Some c =
    let within : c.loop-index.index < length c.args.family.now.sets = omega arith in
    sym (first-found (set_look c.args.family.now c.args.x.now (pieces_value c.args.pieces.now) c.args.piece) c.loop-index.index (length c.args.family.now.sets) c.in-Some.fault within (sym c.in-Some.ensures)) ∙ c.loop-index.invariant

pub loop-index-preserved : goal.loop-index-preserved
loop-index-preserved c =
    let none : set_look c.args.family.now c.args.x.now (pieces_value c.args.pieces.now) c.args.piece c.loop-index.index ≡ None = sym c.set_at.ensures ∙ c.in_default.is in
    let within : c.loop-index.index < length c.args.family.now.sets = omega arith in
    sym (first-passes (set_look c.args.family.now c.args.x.now (pieces_value c.args.pieces.now) c.args.piece) c.loop-index.index (length c.args.family.now.sets) within none) ∙ c.loop-index.invariant
