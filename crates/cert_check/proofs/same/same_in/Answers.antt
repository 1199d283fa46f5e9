use Rattle.std.proofs.Common.{◌≡◌, ◌<◌, length, sym, ◌∙◌, None, arith}
use Rattle.definitions.specs.Values.{piece_value}
use Rattle.std.proofs.lemmas.List.{length-map}
use Rattle.definitions.proofs.FirstFaults.{first-passes, first-found}
use Rattle.cert_check.specs.PieceFaults.{same_look, pieces_value}
use Rattle.cert_check.proofs.same.same_in.Goals as goal

pub returns-in-Some : goal.returns-in-Some
returns-in-Some c =
    let within : c.loop-second.second < length (pieces_value c.args.pieces.now) = omega (arith, length-map c.args.pieces.now.list.items piece_value) in
    sym (first-found (same_look (pieces_value c.args.pieces.now) c.args.first) c.loop-second.second (length (pieces_value c.args.pieces.now)) c.in-Some.fault within (sym c.in-Some.ensures)) ∙ c.loop-second.invariant

pub loop-second-preserved : goal.loop-second-preserved
loop-second-preserved c =
    let none : same_look (pieces_value c.args.pieces.now) c.args.first c.loop-second.second ≡ None = sym c.same_at.ensures ∙ c.in_default.is in
    let within : c.loop-second.second < length (pieces_value c.args.pieces.now) = omega (arith, length-map c.args.pieces.now.list.items piece_value) in
    sym (first-passes (same_look (pieces_value c.args.pieces.now) c.args.first) c.loop-second.second (length (pieces_value c.args.pieces.now)) within none) ∙ c.loop-second.invariant
