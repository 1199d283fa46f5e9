use Rattle.std.proofs.Common.{◌+◌, ◌*◌, refl, arith, length, slice_index, ap, set, sym, ◌∙◌, subst}
use Rattle.std.specs.Prelude.{count_by, ◌==◌}
use Rattle.std.proofs.lemmas.List.{get_or_read}
use Rattle.std.proofs.lemmas.Option.{slice_get_read}
use Rattle.eating.specs.Plan.{IsLine, holders_at}
use Rattle.eating.specs.Seats.{IsSeat, IsSoFar}
use Rattle.eating.proofs.Moving.{held_on, moved_none, moved_on, place_known, speeds_moved}
use Rattle.eating.proofs.Running.{speeds_small}
use Rattle.eating.proofs.Seating.{seat_part}
use Rattle.eating.proofs.progress.Progress.move_on.Goals as goal

pub first_open-place-requires-clause-line : goal.first_open-place-requires-clause-line
first_open-place-requires-clause-line c =
    let is = slice_get_read c.args.lines.now (length c.args.lines.now) c.args.agent c.index-lines-agent.result (omega arith) c.requires.agent c.index-lines-agent.is in
    subst (λ xs. IsLine (length xs) c.index-lines-agent.result) (sym c.deref.ensures.value) (c.requires.lines.each c.args.agent c.index-lines-agent.result is)

pub first_open-place-requires-clause-start : goal.first_open-place-requires-clause-start
first_open-place-requires-clause-start c =
    let s = c.args.self.now in
    let is = slice_get_read c.args.lines.now (length c.args.lines.now) c.args.agent c.index-lines-agent.result (omega arith) c.requires.agent c.index-lines-agent.is in
    let inside = place_known c.args.lines.now c.args.agent c.index-lines-agent.result is s c.requires.moving c.requires.agent in
    let old = get_or_read s.places.items c.args.agent c.index-old.result.now inside c.index-old.ensures 0 in
    subst (λ xs. IsSoFar s.unit xs c.index-lines-agent.result c.index-old.result.now) (sym c.deref.ensures.value)
    (subst (IsSoFar s.unit s.moments.items c.index-lines-agent.result) (sym old) (c.requires.moving.so_far.each c.args.agent c.index-lines-agent.result is))

pub returns-then-place-old-clause-moving : goal.returns-then-place-old-clause-moving
returns-then-place-old-clause-moving c =
    let s = c.args.self.now in
    let line = c.index-lines-agent.result in
    let is = slice_get_read c.args.lines.now (length c.args.lines.now) c.args.agent line (omega arith) c.requires.agent c.index-lines-agent.is in
    let inside = place_known c.args.lines.now c.args.agent line is s c.requires.moving c.requires.agent in
    let old = get_or_read s.places.items c.args.agent c.index-old.result.now inside c.index-old.ensures 0 in
    let seat = subst (λ xs. IsSeat s.unit xs line c.first_open-place.result) c.deref.ensures.value c.first_open-place.ensures in
    moved_none c.args.lines.now c.args.agent line is s c.requires.moving (subst (IsSeat s.unit s.moments.items line) (c.if-place-old.true ∙ old) seat)

pub holders-requires : goal.holders-requires
holders-requires c =
    let s = c.args.self.now in
    let line = c.index-lines-agent.result in
    let is = slice_get_read c.args.lines.now (length c.args.lines.now) c.args.agent line (omega arith) c.requires.agent c.index-lines-agent.is in
    let inside = place_known c.args.lines.now c.args.agent line is s c.requires.moving c.requires.agent in
    let old = get_or_read s.places.items c.args.agent c.index-old.result.now inside c.index-old.ensures 0 in
    let place = (c.requires.moving.so_far.each c.args.agent line is).inside in
    let lawful = c.requires.lines.each c.args.agent line is in
    omega (arith, old, place, lawful.many)

pub take_speed-requires-clause-inside : goal.take_speed-requires-clause-inside
take_speed-requires-clause-inside c =
    let is = slice_get_read c.args.lines.now (length c.args.lines.now) c.args.agent c.index-lines-agent.result (omega arith) c.requires.agent c.index-lines-agent.is in
    rw c.holders.ensures ((c.requires.lines.each c.args.agent c.index-lines-agent.result is).inside c.index-old.result.now)

pub take_speed-requires-clause-eaten : goal.take_speed-requires-clause-eaten
take_speed-requires-clause-eaten c j =
    let s = c.args.self.now in
    let line = c.index-lines-agent.result in
    let is = slice_get_read c.args.lines.now (length c.args.lines.now) c.args.agent line (omega arith) c.requires.agent c.index-lines-agent.is in
    let inside = place_known c.args.lines.now c.args.agent line is s c.requires.moving c.requires.agent in
    let old = get_or_read s.places.items c.args.agent c.index-old.result.now inside c.index-old.ensures 0 in
    let part = seat_part c.args.lines.now s.places.items c.args.agent j line is inside in
    let same = ap (λ q. line.demand * count_by (λ h. h == j) (holders_at line q)) old in
    rw (c.holders.ensures, c.demand.ensures) (omega (arith, part, same, c.requires.moving.speeds j))

pub take_speed-requires-clause-slow : goal.take_speed-requires-clause-slow
take_speed-requires-clause-slow c j =
    let s = c.args.self.now in
    omega (arith, speeds_small c.args.lines.now s.places.items (length s.moments.items) j c.requires.lines, c.requires.moving.speeds j)

pub holders-requires-2 : goal.holders-requires-2
holders-requires-2 c =
    let line = c.index-lines-agent.result in
    let is = slice_get_read c.args.lines.now (length c.args.lines.now) c.args.agent line (omega arith) c.requires.agent c.index-lines-agent.is in
    let lawful = c.requires.lines.each c.args.agent line is in
    omega (arith, c.first_open-place.ensures.so_far.inside, lawful.many)

pub add_speed-requires-clause-inside : goal.add_speed-requires-clause-inside
add_speed-requires-clause-inside c =
    let is = slice_get_read c.args.lines.now (length c.args.lines.now) c.args.agent c.index-lines-agent.result (omega arith) c.requires.agent c.index-lines-agent.is in
    let lawful = c.requires.lines.each c.args.agent c.index-lines-agent.result is in
    rw c.holders-2.ensures (λ k d l. (let w = lawful.inside c.first_open-place.result k d l in omega (arith, w, ap length c.take_speed.ensures.held.moments)))

pub add_speed-requires-clause-room : goal.add_speed-requires-clause-room
add_speed-requires-clause-room c j =
    let s = c.args.self.now in
    let line = c.index-lines-agent.result in
    let is = slice_get_read c.args.lines.now (length c.args.lines.now) c.args.agent line (omega arith) c.requires.agent c.index-lines-agent.is in
    let inside = place_known c.args.lines.now c.args.agent line is s c.requires.moving c.requires.agent in
    let old = get_or_read s.places.items c.args.agent c.index-old.result.now inside c.index-old.ensures 0 in
    let seat = subst (λ xs. IsSeat s.unit xs line c.first_open-place.result) c.deref.ensures.value c.first_open-place.ensures in
    let moved = speeds_moved c.args.lines.now c.args.agent line is s c.requires.moving inside c.first_open-place.result seat j (slice_index c.take_speed.new.self.speeds.items j)
    (slice_index c.take_speed.new.self.speeds.items j + c.demand-2.result * count_by (λ h. h == j) c.holders-2.result.now) c.demand.result c.demand-2.result c.holders.result.now c.holders-2.result.now
    c.demand.ensures c.demand-2.ensures (c.holders.ensures ∙ ap (λ q. holders_at line q) old) c.holders-2.ensures (c.take_speed.ensures.speeds j) refl in
    omega (arith, moved, speeds_small c.args.lines.now (set s.places.items c.args.agent c.first_open-place.result) (length s.moments.items) j c.requires.lines)

pub returns-clause-moving : goal.returns-clause-moving
returns-clause-moving c =
    let s = c.args.self.now in
    let line = c.index-lines-agent.result in
    let is = slice_get_read c.args.lines.now (length c.args.lines.now) c.args.agent line (omega arith) c.requires.agent c.index-lines-agent.is in
    let inside = place_known c.args.lines.now c.args.agent line is s c.requires.moving c.requires.agent in
    let old = get_or_read s.places.items c.args.agent c.index-old.result.now inside c.index-old.ensures 0 in
    let seat = subst (λ xs. IsSeat s.unit xs line c.first_open-place.result) c.deref.ensures.value c.first_open-place.ensures in
    let held = held_on s c.take_speed.new.self c.add_speed.new.self c.take_speed.ensures.held c.add_speed.ensures.held in
    moved_on c.args.lines.now c.args.agent line is s c.requires.moving inside c.first_open-place.result seat _
    (record { unit = held.unit; at = held.at; moments = held.moments; rests = held.rests; many = held.many }) c.add_speed.ensures.dues
    (ap (λ xs. set xs c.args.agent c.first_open-place.result) (c.add_speed.ensures.places ∙ c.take_speed.ensures.places))
    (λ j. speeds_moved c.args.lines.now c.args.agent line is s c.requires.moving inside c.first_open-place.result seat j (slice_index c.take_speed.new.self.speeds.items j)
    _ c.demand.result c.demand-2.result c.holders.result.now c.holders-2.result.now
    c.demand.ensures c.demand-2.ensures (c.holders.ensures ∙ ap (λ q. holders_at line q) old) c.holders-2.ensures (c.take_speed.ensures.speeds j) (c.add_speed.ensures.speeds j))
