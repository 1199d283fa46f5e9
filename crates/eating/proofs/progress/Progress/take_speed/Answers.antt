use Rattle.std.proofs.Common.{◌+◌, ◌-◌, ◌*◌, ◌<◌, arith, length, ap, get_or, take, ◌∙◌}
use Rattle.std.specs.Prelude.{count_by, ◌==◌}
use Rattle.std.proofs.lemmas.List.{get_or_read}
use Rattle.eating.proofs.Moving.{held_on}
use Rattle.eating.proofs.Seating.{left_for, taken_off}
use Rattle.eating.proofs.progress.Progress.take_speed.Goals as goal

pub overflow_sub-speed : goal.overflow_sub-speed
overflow_sub-speed c =
    let x = get_or c.args.holders.now c.loop-limit.limit-index 0 in
    let known = c.requires.inside c.loop-limit.limit-index 0 (omega arith) in
    let in_speeds : x < length c.loop-limit.self.speeds.items = omega (arith, known, c.loop-limit.invariant.held.many, c.requires.steady.many_speeds) in
    let speed = get_or_read c.loop-limit.self.speeds.items x c.index.result.now in_speeds c.index.ensures 0 in
    let left = left_for c.args.self.now.speeds.items c.loop-limit.self.speeds.items c.args.holders.now c.args.demand c.loop-limit.limit-index (omega arith) c.requires.eaten c.loop-limit.invariant.speeds in
    omega (arith, left, speed)

pub loop-limit-preserved : goal.loop-limit-preserved
loop-limit-preserved c =
    let now = c.loop-limit.self in
    let inv = c.loop-limit.invariant in
    let x = get_or c.args.holders.now c.loop-limit.limit-index 0 in
    let known = c.requires.inside c.loop-limit.limit-index 0 (omega arith) in
    let in_speeds : x < length now.speeds.items = omega (arith, known, inv.held.many, c.requires.steady.many_speeds) in
    let speed = get_or_read now.speeds.items x c.index.result.now in_speeds c.index.ensures 0 in
    let left = left_for c.args.self.now.speeds.items now.speeds.items c.args.holders.now c.args.demand c.loop-limit.limit-index (omega arith) c.requires.eaten inv.speeds in
    record {
      speeds = λ j. ap (λ xs. get_or xs j 0 + c.args.demand * count_by (λ h. h == j) (take (c.loop-limit.limit-index + 1) c.args.holders.now)) c.set_speed.ensures.speeds
          ∙ taken_off now.speeds.items c.args.self.now.speeds.items c.args.holders.now c.args.demand c.loop-limit.limit-index (c.index.result.now - c.args.demand) (omega arith) in_speeds (omega (arith, left, speed)) inv.speeds j;
      places = c.set_speed.ensures.places ∙ inv.places;
      held = held_on c.args.self.now now c.set_speed.new.self inv.held c.set_speed.ensures.held;
      dues = c.set_speed.ensures.dues;
    }
