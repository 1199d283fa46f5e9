use Rattle.std.proofs.Common.{◌∙◌, ◌<◌, ◌+◌, Some, sym, arith, length, ap}
use Rattle.std.proofs.lemmas.Bool.{ltb-true, ltb-false}
use Rattle.std.proofs.lemmas.Result.{err_from_is_err_and}
use Rattle.alloc_input.proofs.GrowFacts.{limits-many, marks_count, pushed-limits, pushed-values, push-counted}
use Rattle.alloc_input.proofs.Stops.{failed, passed, stopped-on, stops_along}
use Rattle.alloc_input.proofs.quotas.open_sets.push_rectangle.Goals as goal

pub returns-in_err-need-clause-checked : goal.returns-in_err-need-clause-checked
returns-in_err-need-clause-checked c =
    let over = failed _ _ _ c.in_err-need.ensures in
    let many = ltb-false _ _ over.0 in
    stopped-on _ _ _ _ c.from_residual.ensures.1 (limits-many c.args.sets.now.items _ (omega (arith, c.len.ensures, many)) ∙ ap (λ k. Some k) over.1)

pub mark-requires-clause-within : goal.mark-requires-clause-within
mark-requires-clause-within c =
    let none = marks_count c.new-marks.result c.new-marks.ensures.marked ∙ ap length c.new-marks.ensures.none in
    omega (arith, none)

pub returns-in_err-mark-clause-checked : goal.returns-in_err-mark-clause-checked
returns-in_err-mark-clause-checked c =
    let room = ltb-true _ _ (passed _ _ c.in_ok-need.ensures.0) in
    let few : length c.args.sets.now.items < 1000 = omega (arith, c.len.ensures, room) in
    let p = err_from_is_err_and c.from_residual-in_err-mark.result c.from_residual-in_err-mark.ensures.1 in
    rw (p.1, p.2) (stops_along c.in_err-mark.field-0.0 _ _
    (pushed-limits c.args.size.agents c.args.size.objects c.args.sets.now.items c.args.total.now c.args.side c.args.quotas.floor c.args.quotas.ceiling c.args.agents.now c.args.columns.now c.new-marks.result
    c.new-marks.ensures.none c.new-marks.ensures.size.0 c.new-marks.ensures.size.1 c.requires.counted few)
    c.in_err-mark.ensures.checked)

pub returns-clause-checked : goal.returns-clause-checked
returns-clause-checked c =
    let room = ltb-true _ _ (passed _ _ c.in_ok-need.ensures.0) in
    let few : length c.args.sets.now.items < 1000 = omega (arith, c.len.ensures, room) in
    let items = c.in_ok-push.ensures.items in
    let h = c.in_ok-mark.ensures.checked in (
      sym (pushed-limits c.args.size.agents c.args.size.objects c.args.sets.now.items c.args.total.now c.args.side c.args.quotas.floor c.args.quotas.ceiling c.args.agents.now c.args.columns.now c.new-marks.result
          c.new-marks.ensures.none c.new-marks.ensures.size.0 c.new-marks.ensures.size.1 c.requires.counted few) ∙ h.0,
      pushed-values c.args.size.agents c.args.size.objects c.args.sets.now.items c.args.total.now c.args.side c.args.quotas.floor c.args.quotas.ceiling c.args.agents.now c.args.columns.now c.new-marks.result
          c.new-marks.ensures.none c.new-marks.ensures.size.0 c.new-marks.ensures.size.1 c.mark.new.marks c.push.new.self.items h.1.0 items,
    )

pub returns-clause-counted : goal.returns-clause-counted
returns-clause-counted c =
    let room = ltb-true _ _ (passed _ _ c.in_ok-need.ensures.0) in
    let few : length c.args.sets.now.items < 1000 = omega (arith, c.len.ensures, room) in
    let items = c.in_ok-push.ensures.items in
    let h = c.in_ok-mark.ensures.checked in
    let many = marks_count c.mark.new.marks h.1.1.0 in
    push-counted c.args.size.agents c.args.size.objects c.args.sets.now.items c.push.new.self.items c.args.total.now _ _ c.requires.counted
    (record { agents = h.1.1.1 ∙ c.new-marks.ensures.size.0; columns = h.1.1.2 ∙ c.new-marks.ensures.size.1; marked = h.1.1.0; quotas = c.requires.quotas })
    items few (ap (λ k. c.args.total.now + k) many) (omega (arith, c.in_ok-mark.ensures.few, c.requires.counted.few))
