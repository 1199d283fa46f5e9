use Rattle.std.proofs.Common.{◌+◌, ◌<◌, arith, length, ap, get_or, set, ◌∙◌}
use Rattle.std.proofs.lemmas.List.{get_or_read}
use Rattle.eating.proofs.Moving.{held_on}
use Rattle.eating.proofs.Seating.{added, room_for}
use Rattle.eating.proofs.progress.Progress.add_speed.Goals as goal

pub overflow_add-speed : goal.overflow_add-speed
overflow_add-speed c =
    let x = get_or c.args.holders.now c.loop-limit.limit-index 0 in
    let known = c.requires.inside c.loop-limit.limit-index 0 (omega arith) in
    let in_speeds : x < length c.loop-limit.self.speeds.items = omega (arith, known, c.loop-limit.invariant.held.many, c.requires.steady.many_speeds) in
    let speed = get_or_read c.loop-limit.self.speeds.items x c.index.result.now in_speeds c.index.ensures 0 in
    let room = room_for c.args.self.now.speeds.items c.loop-limit.self.speeds.items c.args.holders.now c.args.demand c.loop-limit.limit-index (omega arith) c.requires.room c.loop-limit.invariant.speeds in
    omega (arith, room, speed)

pub set_speed-requires-clause-speed : goal.set_speed-requires-clause-speed
set_speed-requires-clause-speed c =
    let x = get_or c.args.holders.now c.loop-limit.limit-index 0 in
    let known = c.requires.inside c.loop-limit.limit-index 0 (omega arith) in
    let in_speeds : x < length c.loop-limit.self.speeds.items = omega (arith, known, c.loop-limit.invariant.held.many, c.requires.steady.many_speeds) in
    let speed = get_or_read c.loop-limit.self.speeds.items x c.index.result.now in_speeds c.index.ensures 0 in
    let room = room_for c.args.self.now.speeds.items c.loop-limit.self.speeds.items c.args.holders.now c.args.demand c.loop-limit.limit-index (omega arith) c.requires.room c.loop-limit.invariant.speeds in
    omega (arith, room, speed)

pub loop-limit-preserved : goal.loop-limit-preserved
loop-limit-preserved c =
    let now = c.loop-limit.self in
    let inv = c.loop-limit.invariant in
    let x = get_or c.args.holders.now c.loop-limit.limit-index 0 in
    let known = c.requires.inside c.loop-limit.limit-index 0 (omega arith) in
    let in_speeds : x < length now.speeds.items = omega (arith, known, inv.held.many, c.requires.steady.many_speeds) in
    let speed = get_or_read now.speeds.items x c.index.result.now in_speeds c.index.ensures 0 in
    record {
      speeds = λ j. ap (λ xs. get_or xs j 0) c.set_speed.ensures.speeds ∙ ap (λ n. get_or (set now.speeds.items x (n + c.args.demand)) j 0) speed
          ∙ added now.speeds.items c.args.self.now.speeds.items c.args.holders.now c.args.demand c.loop-limit.limit-index (omega arith) in_speeds inv.speeds j;
      places = c.set_speed.ensures.places ∙ inv.places;
      held = held_on c.args.self.now now c.set_speed.new.self inv.held c.set_speed.ensures.held;
      dues = c.set_speed.ensures.dues;
    }
