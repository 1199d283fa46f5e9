use Rattle.std.proofs.Common.{refl, arith, length, ap, ◌∙◌}
use Rattle.std.proofs.lemmas.Option.{slice_get_read}
use Rattle.eating.specs.Seats.{seat_speed}
use Rattle.eating.proofs.Moving.{held_none, held_on, sat_down}
use Rattle.eating.proofs.Seating.{seat_room}
use Rattle.eating.proofs.progress.Progress.sit_down.Goals as goal

pub loop-agent-init : goal.loop-agent-init
unfolding seat_speed
loop-agent-init c = record {
  speeds = c.requires.zero;
  places = refl;
  held = held_none c.args.self.now;
  dues = c.requires.dues;
}

pub holders-requires : goal.holders-requires
holders-requires c =
    let is = slice_get_read c.args.lines.now (length c.args.lines.now) c.loop-agent.agent c.index-lines-agent.result (omega arith) c.loop-agent-test.true c.index-lines-agent.is in
    let line = c.requires.lines.each c.loop-agent.agent c.index-lines-agent.result is in
    omega (arith, line.some, line.many)

pub add_speed-requires-clause-inside : goal.add_speed-requires-clause-inside
add_speed-requires-clause-inside c =
    let is = slice_get_read c.args.lines.now (length c.args.lines.now) c.loop-agent.agent c.index-lines-agent.result (omega arith) c.loop-agent-test.true c.index-lines-agent.is in
    let line = c.requires.lines.each c.loop-agent.agent c.index-lines-agent.result is in
    rw c.holders.ensures (λ k d l. (let w = line.inside 0 k d l in omega (arith, w, ap length c.loop-agent.invariant.held.moments)))

pub add_speed-requires-clause-room : goal.add_speed-requires-clause-room
add_speed-requires-clause-room c j =
    let is = slice_get_read c.args.lines.now (length c.args.lines.now) c.loop-agent.agent c.index-lines-agent.result (omega arith) c.loop-agent-test.true c.index-lines-agent.is in
    let room = seat_room c.args.lines.now c.args.self.now.places.items c.loop-agent.agent j c.index-lines-agent.result 0 (length c.args.self.now.moments.items) c.requires.lines is (omega (arith, c.loop-agent-test.true, c.requires.many)) in
    rw (c.holders.ensures, c.demand.ensures) (omega (arith, room, c.loop-agent.invariant.speeds j))

pub loop-agent-preserved : goal.loop-agent-preserved
loop-agent-preserved c =
    let is = slice_get_read c.args.lines.now (length c.args.lines.now) c.loop-agent.agent c.index-lines-agent.result (omega arith) c.loop-agent-test.true c.index-lines-agent.is in
    record {
      speeds = λ j. sat_down c.args.lines.now c.args.self.now.places.items c.loop-agent.agent j c.index-lines-agent.result is (omega (arith, c.loop-agent-test.true, c.requires.many)) (c.requires.first c.loop-agent.agent)
          _ _ c.demand.result c.holders.result.now c.demand.ensures c.holders.ensures (c.loop-agent.invariant.speeds j) (c.add_speed.ensures.speeds j);
      places = c.add_speed.ensures.places ∙ c.loop-agent.invariant.places;
      held = held_on c.args.self.now c.loop-agent.self c.add_speed.new.self c.loop-agent.invariant.held c.add_speed.ensures.held;
      dues = c.add_speed.ensures.dues;
    }
