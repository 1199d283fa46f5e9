use Rattle.std.proofs.Common.{◌∙◌, length, slice_index, ap}
use Rattle.std.proofs.lemmas.List.{length-replicate}
use Rattle.std.proofs.lemmas.Result.{err_from_is_err_and}
use Rattle.eating.proofs.Moving.{seated_through}
use Rattle.eating.proofs.Running.{at_within, at_end}
use Rattle.eating.proofs.States.{start_within, start_due, start_place, start_zero, start_at, start_moving, next_at, next_moving, next_fewer, step_beyond}
use Rattle.eating.proofs.progress.Progress.eat.Goals as goal

pub advance-requires-clause-within : goal.advance-requires-clause-within
advance-requires-clause-within c = start_within c.requires.0 c.args.lines.now c.args.self.now c.requires.1

pub advance-requires-clause-dues : goal.advance-requires-clause-dues
advance-requires-clause-dues c = start_due c.requires.0 c.args.lines.now c.args.self.now c.requires.1

pub sit_down-requires-clause-many : goal.sit_down-requires-clause-many
sit_down-requires-clause-many c = (let run = c.requires.1 in ap length c.advance.ensures.places ∙ ap length run.start.places ∙ length-replicate (length c.args.lines.now) 0)

pub sit_down-requires-clause-first : goal.sit_down-requires-clause-first
sit_down-requires-clause-first c i = ap (λ xs. slice_index xs i) c.advance.ensures.places ∙ start_place c.requires.0 c.args.lines.now c.args.self.now c.requires.1 i

pub sit_down-requires-clause-zero : goal.sit_down-requires-clause-zero
sit_down-requires-clause-zero c j = ap (λ xs. slice_index xs j) c.advance.ensures.speeds ∙ start_zero c.requires.0 c.args.lines.now c.args.self.now c.requires.1 j

pub seat-requires-clause-moving : goal.seat-requires-clause-moving
seat-requires-clause-moving c =
    start_moving c.requires.0 c.args.lines.now c.args.self.now c.advance.new.self c.sit_down.new.self c.requires.1 c.advance.ensures.places c.advance.ensures.steady c.sit_down.ensures.held c.sit_down.ensures.places
    c.sit_down.ensures.speeds c.sit_down.ensures.dues

pub loop-moment-init : goal.loop-moment-init
loop-moment-init c = record {
  at = λ market run. start_at market c.args.lines.now c.args.self.now c.advance.new.self c.seat.new.self run c.advance.ensures.unit c.advance.ensures.at c.advance.ensures.limits
      (seated_through c.args.lines.now c.advance.new.self c.sit_down.new.self c.seat.new.self c.sit_down.ensures.held c.seat.ensures.seated);
  dues = c.seat.ensures.dues;
}

pub go_to-requires-clause-within : goal.go_to-requires-clause-within
go_to-requires-clause-within c = (let run = c.requires.1 in at_within c.requires.0 c.args.lines.now run.lines_of run.small c.loop-moment.self (c.loop-moment.invariant.at c.requires.0 run))

pub returns-in_err-go_to-clause-too_fine : goal.returns-in_err-go_to-clause-too_fine
returns-in_err-go_to-clause-too_fine c market run =
    let at = c.loop-moment.invariant.at market run in
    let far = step_beyond market c.args.lines.now c.loop-moment.self c.in-Some.moment run.lines_of run.small at c.in-Some.ensures in
    let p = err_from_is_err_and c.from_residual.result c.from_residual.ensures.1 in
    rw (p.1, p.2) (far c.in_err-go_to.field-0.0.lcm c.in_err-go_to.ensures.beyond)

pub seat-requires-in-Some-clause-moving : goal.seat-requires-in-Some-clause-moving
seat-requires-in-Some-clause-moving c =
    let run = c.requires.1 in
    next_moving c.requires.0 c.args.lines.now c.loop-moment.self c.go_to.new.self c.in-Some.moment (c.loop-moment.invariant.at c.requires.0 run) c.in-Some.ensures c.in_ok-go_to.ensures.step run.lines_of
    c.in_ok-go_to.ensures.steady c.in_ok-go_to.ensures.dues

pub loop-moment-smaller : goal.loop-moment-smaller
loop-moment-smaller c =
    let run = c.requires.1 in
    next_fewer c.requires.0 c.args.lines.now c.loop-moment.self c.go_to.new.self c.in-Some.moment (c.loop-moment.invariant.at c.requires.0 run) c.in-Some.ensures c.in_ok-go_to.ensures.step c.seat-in-Some.new.self c.seat-in-Some.ensures.seated

pub loop-moment-preserved : goal.loop-moment-preserved
loop-moment-preserved c = record {
  at = λ market run. next_at market c.args.lines.now c.loop-moment.self c.go_to.new.self c.in-Some.moment (c.loop-moment.invariant.at market run) c.in-Some.ensures c.in_ok-go_to.ensures.step run.lines_of run.small c.seat-in-Some.new.self c.seat-in-Some.ensures.seated;
  dues = c.seat-in-Some.ensures.dues;
}

pub returns-clause-table : goal.returns-clause-table
returns-clause-table c market run =
    at_end market c.args.lines.now run.lines_of run.small c.loop-moment.self (c.loop-moment.invariant.at market run) c.in_default.ensures
