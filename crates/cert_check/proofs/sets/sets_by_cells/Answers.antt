use Rattle.std.proofs.Common.{◌≡◌, ◌<◌, length, sym, ◌∙◌, None, arith, ℕ}
use Rattle.definitions.specs.Values.{piece_value}
use Rattle.std.proofs.lemmas.List.{length-map}
use Rattle.definitions.specs.Firsts.{first_in}
use Rattle.definitions.proofs.FirstFaults.{first-passes, first-found}
use Rattle.cert_check.specs.PieceFaults.{set_look, pieces_value}
use Rattle.cert_check.proofs.sets.sets_by_cells.Goals as goal

pub returns-in-Some : goal.returns-in-Some
returns-in-Some c =
    let within : c.loop-piece.piece < length (pieces_value c.args.pieces.now) = omega (arith, length-map c.args.pieces.now.list.items piece_value) in
    sym (first-found (λ (i : ℕ). first_in (set_look c.args.family.now c.args.x.now (pieces_value c.args.pieces.now) i) 0 (length c.args.family.now.sets)) c.loop-piece.piece (length (pieces_value c.args.pieces.now)) c.in-Some.fault within (sym c.in-Some.ensures)) ∙ c.loop-piece.invariant

pub loop-piece-preserved : goal.loop-piece-preserved
loop-piece-preserved c =
    let none : first_in (set_look c.args.family.now c.args.x.now (pieces_value c.args.pieces.now) c.loop-piece.piece) 0 (length c.args.family.now.sets) ≡ None = sym c.sets_in.ensures ∙ c.in_default.is in
    let within : c.loop-piece.piece < length (pieces_value c.args.pieces.now) = omega (arith, length-map c.args.pieces.now.list.items piece_value) in
    sym (first-passes (λ (i : ℕ). first_in (set_look c.args.family.now c.args.x.now (pieces_value c.args.pieces.now) i) 0 (length c.args.family.now.sets)) c.loop-piece.piece (length (pieces_value c.args.pieces.now)) within none) ∙ c.loop-piece.invariant
