use Rattle.std.proofs.Common.{◌≡◌, ℕ, ◌+◌, ◌-◌, length, drop, ap, arith}
use Rattle.std.proofs.lemmas.List.{length-map}
use Rattle.definitions.specs.Tickets.{piece_of}
use Rattle.definitions.specs.declared.Piece.{Piece}
use Rattle.seed_draw.specs.Weights.{weights_of}
use Rattle.seed_draw.proofs.TicketPlaces.{named_here, named_later, sum_later, get_or-weights_of}
use Rattle.seed_draw.proofs.piece_in.Goals as goal

pub returns-then-rest-weight-clause-value : goal.returns-then-rest-weight-clause-value
returns-then-rest-weight-clause-value c =
    let weights = weights_of c.args.pieces.now in
    let many : length weights ≡ length c.args.pieces.now = length-map c.args.pieces.now (λ (p : Piece). p.weight) in
    let weight = get_or-weights_of c.args.pieces.now c.loop-place.place c.index-pieces-place.result (omega arith) c.index-pieces-place.is in
    omega (arith, named_here weights c.loop-place.place c.loop-place.rest (omega arith) (omega arith))

pub loop-place-preserved : goal.loop-place-preserved
loop-place-preserved c =
    let weights = weights_of c.args.pieces.now in
    let many : length weights ≡ length c.args.pieces.now = length-map c.args.pieces.now (λ (p : Piece). p.weight) in
    let weight = get_or-weights_of c.args.pieces.now c.loop-place.place c.index-pieces-place.result (omega arith) c.index-pieces-place.is in
    let left = ap (λ (w : ℕ). piece_of (drop (c.loop-place.place + 1) weights) (c.loop-place.rest - w)) weight in
    let later = named_later weights c.loop-place.place c.loop-place.rest (omega arith) (omega arith) in
    let rest = sum_later weights c.loop-place.place (omega arith) in
    record { named = omega arith; below = omega arith }
