use Rattle.std.proofs.Common.{◌<◌, arith, length, ap, ◌∙◌, subst}
use Rattle.eating_laws.proofs.Holders.{least_of}
use Rattle.eating.proofs.Places.{next_place, seat_here, place_room}
use Rattle.eating.proofs.progress.first_open.Goals as goal

pub overflow_add-place : goal.overflow_add-place
overflow_add-place c =
    let is = c.least_of.ensures ∙ ap (least_of c.args.unit c.args.moments.now) c.holders.ensures in
    let room = place_room c.args.unit c.args.moments.now c.args.line.now (length c.args.moments.now) c.loop-place.place c.requires.line c.loop-place.invariant (subst (λ n. n < c.args.unit) is c.loop-place-test.true) in
    omega (arith, room, c.requires.line.short)

pub loop-place-preserved : goal.loop-place-preserved
loop-place-preserved c =
    let is = c.least_of.ensures ∙ ap (least_of c.args.unit c.args.moments.now) c.holders.ensures in
    next_place c.args.unit c.args.moments.now c.args.line.now (length c.args.moments.now) c.loop-place.place c.requires.line c.loop-place.invariant (subst (λ n. n < c.args.unit) is c.loop-place-test.true)

pub returns : goal.returns
returns c =
    let is = c.least_of.ensures ∙ ap (least_of c.args.unit c.args.moments.now) c.holders.ensures in
    seat_here c.args.unit c.args.moments.now c.args.line.now c.loop-place.place c.loop-place.invariant (omega (arith, is, c.loop-place-test.false))
