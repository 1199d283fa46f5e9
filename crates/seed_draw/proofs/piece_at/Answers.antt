use Rattle.std.proofs.Common.{arith}
use Rattle.seed_draw.proofs.TicketPlaces.{named_here, named_later, sum_later}
use Rattle.seed_draw.proofs.piece_at.Goals as goal

pub returns-then-rest-weight-clause-value : goal.returns-then-rest-weight-clause-value
returns-then-rest-weight-clause-value c =
    omega (arith, named_here c.args.weights.now c.loop-index.index c.loop-index.rest (omega arith) (omega arith))

pub loop-index-preserved : goal.loop-index-preserved
loop-index-preserved c =
    let later = named_later c.args.weights.now c.loop-index.index c.loop-index.rest (omega arith) (omega arith) in
    let rest = sum_later c.args.weights.now c.loop-index.index (omega arith) in
    record { named = omega arith; below = omega arith }
